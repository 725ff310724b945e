use Rattle.std.proofs.Common.{length, get_or, sym, subst}
use Rattle.stg_net.specs.Initial.{graph_of}
use Rattle.stg_laws.specs.Closed.{IsClosed}
use Rattle.stg_laws.specs.Groups.{names_at, is_known_to}
use Rattle.stg_laws.specs.PlainGroups.{Group}
use Rattle.stg_derive.proofs.FinishedParts.{AreInRange}
use Rattle.stg_partition.proofs.Numbers.{numbers_pass}
use Rattle.stg_steps.proofs.worked.derive_group.Goals as goal

pub derive-requires-clause-in_range : goal.derive-requires-clause-in_range
derive-requires-clause-in_range c =
    let n = c.args.spec.now.net in
    let group = c.index-groups-group.result in
    let here = get_or c.args.groups.now c.args.group group in
    let P : Group → Type 0 = λ g. AreInRange n g.known in
    subst P (sym c.index-groups-group.is)
    (subst (AreInRange n) (sym (c.requires.plain.known c.args.group group c.requires.there)) (λ k d low. (numbers_pass (is_known_to n here.own) (length n.signals) k d low).below))

pub derive-requires-clause-closed : goal.derive-requires-clause-closed
derive-requires-clause-closed c =
    let n = c.args.spec.now.net in
    let group = c.index-groups-group.result in
    let P : Group → Type 0 = λ g. IsClosed (graph_of n) (names_at n g.own) (names_at n g.known) in
    subst P (sym c.index-groups-group.is) (c.requires.closed c.args.group group c.requires.there)
