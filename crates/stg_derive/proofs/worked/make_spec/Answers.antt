use Rattle.stg_contract.specs.inner.Worked.{lent_texts}
use Rattle.stg_derive.proofs.DerivableNets.{tables_are_spec}
use Rattle.stg_derive.proofs.worked.make_spec.Goals as goal

pub new-requires : goal.new-requires
new-requires c =
    tables_are_spec (lent_texts c.args.names.now) c.args.trans.now c.args.tokens.now c.args.arcs.now c.requires.labels c.requires.arcs c.requires.derivable
    c.in_ok-net.net c.in_ok-place_names.place_names c.in_ok-net.ensures c.in_ok-place_names.ensures
