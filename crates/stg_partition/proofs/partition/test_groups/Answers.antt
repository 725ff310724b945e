use Rattle.std.proofs.Common.{sym, subst, inr}
use Rattle.stg_partition.specs.inner.Numbers.{AreNumbers}
use Rattle.stg_partition.specs.inner.Splits.{IsFound}
use Rattle.stg_partition.proofs.GroupNumbers.{first_least_missing, numbered_whole}
use Rattle.stg_partition.proofs.Splitting.{found_least, found_none}
use Rattle.stg_partition.proofs.Feasible.{unsplit_feasible}
use Rattle.stg_partition.proofs.partition.test_groups.Goals as goal

pub returns-in-Some-clause-refused : goal.returns-in-Some-clause-refused
returns-in-Some-clause-refused c =
    let n = c.args.net.now in
    let groups = c.args.groups.now in
    let are = subst (AreNumbers n groups) (sym c.as_slice.ensures.value) c.in_ok-numbers.ensures in
    inr (first_least_missing n groups c.as_slice.result.now c.in-Some.signal are c.in-Some.ensures.some)

pub returns-in-None-clause-feasible : goal.returns-in-None-clause-feasible
returns-in-None-clause-feasible c =
    let n = c.args.net.now in
    let groups = c.args.groups.now in
    let are = subst (AreNumbers n groups) (sym c.as_slice.ensures.value) c.in_ok-numbers.ensures in
    let also = subst (AreNumbers n groups) (sym c.as_slice-2.ensures.value) c.in_ok-numbers.ensures in
    let whole = numbered_whole n groups c.as_slice.result.now are c.in_default.ensures.none in
    let found = subst (IsFound n c.as_slice-2.result.now) c.in-None.is c.in_ok-find_split.ensures in
    unsplit_feasible n groups c.requires whole (found_none n groups c.as_slice-2.result.now c.requires whole also found)

pub returns-clause-refused : goal.returns-clause-refused
returns-clause-refused c =
    let n = c.args.net.now in
    let groups = c.args.groups.now in
    let are = subst (AreNumbers n groups) (sym c.as_slice.ensures.value) c.in_ok-numbers.ensures in
    let also = subst (AreNumbers n groups) (sym c.as_slice-2.ensures.value) c.in_ok-numbers.ensures in
    let whole = numbered_whole n groups c.as_slice.result.now are c.in_default.ensures.none in
    let found = subst (IsFound n c.as_slice-2.result.now) c.in-Some-2.is c.in_ok-find_split.ensures in
    inr (whole, found_least n groups c.as_slice-2.result.now c.in-Some-2.split c.requires whole also found)
