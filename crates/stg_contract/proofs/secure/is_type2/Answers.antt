use Rattle.stg_contract.proofs.secure.is_type2.Goals as goal

pub is_sole_giver-requires : goal.is_sole_giver-requires
is_sole_giver-requires c = c.gives.ensures.live

pub has_empty-requires : goal.has_empty-requires
has_empty-requires c = c.gives-then-is_sole_giver.ensures.live
