use Rattle.std.proofs.Common.{◌≡◌, ◌∙◌, map, Ok, sym, ap, subst, arith, inl, inr}
use Rattle.stg_net.specs.Net.{NetLists, IsNet}
use Rattle.stg_laws.specs.PlainGroups.{AreFeasible}
use Rattle.stg_laws.proofs.FeasibleGroups.{feasible_closed, feasible_few}
use Rattle.stg_partition.specs.Partition.{row_group, row_groups, groups_in, IsRefusedPartition}
use Rattle.stg_partition.specs.inner.WordTexts.{all_texts}
use Rattle.stg_partition.proofs.Answered.{named_groups, line_refused}
use Rattle.stg_partition.proofs.partition.read_groups.Goals as goal

pub returns-in-Err-clause-refused : goal.returns-in-Err-clause-refused
returns-in-Err-clause-refused c =
    let m = c.net-net.result.now in
    let e = c.in-Err.error in
    let P : NetLists → Type 0 = λ n. IsRefusedPartition n c.args.text.now e in
    elim c.in-Err.ensures.refused [
      | inl none ↦ inl none
      | inr refused ↦ inr (subst P c.net-net.ensures.net (line_refused m c.args.text.now e (ap (row_groups m) refused)))
    ]

pub test_groups-requires : goal.test_groups-requires
test_groups-requires c =
    let m = c.net-net.result.now in
    let groups = c.as_slice-2.result.now in
    let net = subst IsNet (sym c.net-net.ensures.net) c.net-net.ensures.spec.is_net in
    let made : map (row_group m) (all_texts c.in-Ok.rows) ≡ groups =
    ap (λ rows. map (row_group m) (all_texts rows)) (sym c.as_slice.ensures) ∙ sym c.in_ok-groups.ensures ∙ sym c.as_slice-2.ensures in
    let named : groups_in m c.args.text.now ≡ Ok groups = ap (row_groups m) c.in-Ok.ensures.value ∙ ap Ok made in
    named_groups m c.args.text.now groups net named

pub returns-in-Ok-test_groups-clause-closed : goal.returns-in-Ok-test_groups-clause-closed
returns-in-Ok-test_groups-clause-closed c =
    let P : NetLists → Type 0 = λ n. AreFeasible n c.in_ok-groups.groups in
    let feasible = subst P c.net-net.ensures.net (subst (AreFeasible c.net-net.result.now) c.as_slice-2.ensures c.in-Ok-test_groups.ensures.feasible) in
    feasible_closed c.args.spec.now.net c.in_ok-groups.groups c.net-net.ensures.spec.is_net feasible

pub returns-in-Ok-test_groups-clause-few : goal.returns-in-Ok-test_groups-clause-few
returns-in-Ok-test_groups-clause-few c =
    let P : NetLists → Type 0 = λ n. AreFeasible n c.in_ok-groups.groups in
    let feasible = subst P c.net-net.ensures.net (subst (AreFeasible c.net-net.result.now) c.as_slice-2.ensures c.in-Ok-test_groups.ensures.feasible) in
    omega (arith, feasible_few c.args.spec.now.net c.in_ok-groups.groups feasible, c.net-net.ensures.spec.within.signals)
