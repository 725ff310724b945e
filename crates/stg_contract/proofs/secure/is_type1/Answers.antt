use Rattle.stg_contract.proofs.secure.is_type1.Goals as goal

pub is_sole_taker-requires : goal.is_sole_taker-requires
is_sole_taker-requires c = c.takes.ensures.live
