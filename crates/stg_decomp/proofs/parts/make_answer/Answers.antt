use Rattle.std.proofs.Common.{◌≤◌, All, length, sym, subst, arith}
use Rattle.stg_laws.proofs.FeasibleGroups.{feasible_few}
use Rattle.stg_decomp.specs.Parts.{ArePartsOf}
use Rattle.stg_derive.specs.Loggable.{IsLoggable}
use Rattle.stg_decomp.proofs.Replaced.{settled_loggable}
use Rattle.stg_decomp.proofs.Meaning.{parts_are_components, few_parts}
use Rattle.stg_decomp.proofs.ReadBack.{parts_are_read_back}
use Rattle.stg_decomp.proofs.parts.make_answer.Goals as goal

pub settle_all-requires-clause-few : goal.settle_all-requires-clause-few
settle_all-requires-clause-few g c =
    omega (arith, feasible_few c.args.spec.now.net c.args.groups.now c.requires.feasible, c.in_ok-derived.ensures.derived.as_many, c.requires.within.signals)

pub returns-clause-few : goal.returns-clause-few
returns-clause-few g c =
    let n = c.args.spec.now.net in
    let groups = c.args.groups.now in
    let are : ArePartsOf n groups c.in_ok-parts.parts = record { derived = c.in_ok-derived.derived; are_derived = c.in_ok-derived.ensures.derived; are_settled = c.in_ok-parts.ensures.parts } in
    omega (arith, few_parts n groups c.in_ok-parts.parts c.requires.feasible are, c.requires.within.signals)

pub returns-clause-meaning : goal.returns-clause-meaning
returns-clause-meaning g c =
    let n = c.args.spec.now.net in
    let groups = c.args.groups.now in
    let are : ArePartsOf n groups c.in_ok-parts.parts = record { derived = c.in_ok-derived.derived; are_derived = c.in_ok-derived.ensures.derived; are_settled = c.in_ok-parts.ensures.parts } in
    parts_are_components n groups c.in_ok-parts.parts c.net-net.ensures.spec.is_net c.requires.feasible are c.in_ok-derived.ensures.nets

pub returns-clause-reads_back : goal.returns-clause-reads_back
returns-clause-reads_back g c =
    let n = c.args.spec.now.net in
    let groups = c.args.groups.now in
    let are : ArePartsOf n groups c.in_ok-parts.parts = record { derived = c.in_ok-derived.derived; are_derived = c.in_ok-derived.ensures.derived; are_settled = c.in_ok-parts.ensures.parts } in
    let few : length c.in_ok-parts.parts ≤ 250 = omega (arith, few_parts n groups c.in_ok-parts.parts c.requires.feasible are, c.requires.within.signals) in
    let components = parts_are_components n groups c.in_ok-parts.parts c.net-net.ensures.spec.is_net c.requires.feasible are c.in_ok-derived.ensures.nets in
    parts_are_read_back n groups c.in_ok-parts.parts are components.are_nets c.in_ok-parts.ensures.writable few

pub returns-clause-loggable : goal.returns-clause-loggable
returns-clause-loggable g c =
    let n = c.args.spec.now.net in
    subst (All (IsLoggable n)) (sym c.in_ok-parts.ensures.parts) (settled_loggable n c.in_ok-derived.derived c.in_ok-derived.ensures.loggable)
