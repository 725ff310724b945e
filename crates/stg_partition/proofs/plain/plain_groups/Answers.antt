use Rattle.std.proofs.Common.{◌≡◌, ◌∙◌, Bool, ℕ, List, length, ap, sym, subst}
use Rattle.std.proofs.lemmas.Result.{IfOk-weaker}
use Rattle.stg_net.specs.Net.{NetLists, IsNet}
use Rattle.stg_laws.specs.PlainGroups.{Group, ArePlainGroups, AreClosed}
use Rattle.stg_partition.specs.inner.Joining.{groups_below}
use Rattle.stg_partition.proofs.Grouping.{plain_groups_of}
use Rattle.stg_laws.proofs.FeasibleGroups.{plain_feasible, feasible_closed}
use Rattle.stg_partition.proofs.plain.plain_groups.Goals as goal

pub returns-clause-groups : goal.returns-clause-groups
returns-clause-groups c =
    let n = c.net-net.result.now in
    let leaders = c.in_ok-found.found.leaders.items in
    let takers = c.in_ok-found.found.takers.items in
    let flags = c.in_ok-flags.flags.items in
    let groups_by : List ℕ → List Bool → List Group = λ ls ms. groups_below n ls ms (length ls) in
    let net = subst IsNet (sym c.net-net.ensures.net) c.net-net.ensures.spec.is_net in
    IfOk-weaker c.list_groups.result (λ groups. groups ≡ groups_by c.as_slice.result.now c.as_slice-2.result.now) (λ groups. ArePlainGroups c.args.spec.now.net groups)
    (λ groups same.
    let P : NetLists → Type 0 = λ x. ArePlainGroups x groups in
    subst P c.net-net.ensures.net
    (plain_groups_of n leaders takers c.in_ok-found.ensures flags groups net c.in_ok-flags.ensures.value
    (same ∙ ap (λ ls. groups_by ls c.as_slice-2.result.now) c.as_slice.ensures.value ∙ ap (groups_by leaders) c.as_slice-2.ensures.value)))
    c.list_groups.ensures

pub returns-clause-closed : goal.returns-clause-closed
returns-clause-closed c =
    let net = c.net-net.ensures.spec.is_net in
    IfOk-weaker c.list_groups.result (λ groups. ArePlainGroups c.args.spec.now.net groups) (λ groups. AreClosed c.args.spec.now.net groups) (λ groups are. feasible_closed c.args.spec.now.net groups net (plain_feasible c.args.spec.now.net groups are)) (returns-clause-groups c)
