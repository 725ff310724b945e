use Rattle.std.proofs.Common.{refl, subst}
use Rattle.stg_net.specs.Initial.{graph_of}
use Rattle.stg_net.specs.Net.{NetLists}
use Rattle.stg_laws.specs.Conflict.{HasNoAutoConflict}
use Rattle.desij.proofs.answer.refuse_clashes.Goals as goal

pub returns-in-Ok-clause-accepted : goal.returns-in-Ok-clause-accepted
returns-in-Ok-clause-accepted c =
    let P : NetLists → Type 0 = λ n. HasNoAutoConflict (graph_of n) in
    record { stands = c.requires; no_clash = subst P c.net.ensures.net (c.in-Ok.ensures.none.0 refl) }
