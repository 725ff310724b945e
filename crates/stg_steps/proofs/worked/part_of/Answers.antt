use Rattle.std.proofs.Common.{refl, subst}
use Rattle.stg_net.specs.Initial.{graph_of}
use Rattle.stg_net.specs.Net.{NetLists}
use Rattle.stg_laws.specs.Conflict.{HasNoAutoConflict}
use Rattle.stg_steps.proofs.worked.part_of.Goals as goal

pub derive_group-requires-clause-no_conflict : goal.derive_group-requires-clause-no_conflict
derive_group-requires-clause-no_conflict c =
    let P : NetLists → Type 0 = λ n. HasNoAutoConflict (graph_of n) in
    subst P c.net.ensures.net (c.in-Ok.ensures.none.0 refl)
