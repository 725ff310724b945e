use Rattle.std.proofs.Common.{◌≡◌, ◌<◌, ◌∷◌, Some, length, slice_index_or, heap_items, refl, sym, ◌∙◌, subst, arith}
use Rattle.std.specs.BinaryHeap.{IsHeap, IsUpperBound}
use Rattle.std.specs.Ordering.{nat_cmp}
use Rattle.std.proofs.lemmas.List.{get_or_default}
use Rattle.std.proofs.lemmas.List.Sorted.{All-permutation, length_permutation}
use Rattle.std.specs.List.Sorted.{IsPermutation}
use Rattle.stg_redundant.specs.inner.Searches.{IsDummyRuleOf}
use Rattle.stg_redundant.proofs.FlagSteps.{none_waits, none_greater, waits_without, drops_one, taken}
use Rattle.stg_redundant.proofs.dummy_watch.find_greatest.Goals as goal

pub returns-in-None-clause-found : goal.returns-in-None-clause-found
returns-in-None-clause-found c =
    let i = c.loop-t.invariant in
    none_waits c.args.editor.now.now c.args.flags.now c.loop-t.flags (heap_items c.loop-t.waiting) i.kept i.waits c.in-None.ensures.item.3 c.requires.watched

pub returns-in-Some-rule_at-clause-found : goal.returns-in-Some-rule_at-clause-found
returns-in-Some-rule_at-clause-found c =
    let g = c.args.editor.now.now in
    let i = c.loop-t.invariant in (
      subst (IsDummyRuleOf g c.in-Some.t.now) c.in-Some-rule_at.is c.rule_at.ensures,
      none_greater g c.args.flags.now c.loop-t.flags (heap_items c.loop-t.waiting) c.in-Some.t.now i.kept i.waits (c.in-Some.ensures.greatest i.heap) c.requires.watched,
    )

pub loop-t-preserved : goal.loop-t-preserved
loop-t-preserved c =
    let g = c.args.editor.now.now in
    let i = c.loop-t.invariant in
    let t = c.in-Some.t.now in
    let items = heap_items c.loop-t.waiting in
    let rest = heap_items c.pop.new.self in
    let some = c.pop.ensures.variant.1 (c.in-Some.ensures.variant.0 refl) in
    let top = taken c.pop.result (λ x. x ≡ slice_index_or items 0 x) some c.pop.ensures.top in
    let out = taken c.pop.result (λ x. IsPermutation items (x ∷ rest)) some c.pop.ensures.permutation in
    let order = taken c.pop.result (λ x. IsHeap nat_cmp items → IsHeap nat_cmp rest × IsUpperBound nat_cmp x items) some c.pop.ensures.heap_order in
    let one : Some top.value ≡ Some out.value = sym top.is ∙ out.is in
    let same : top.value ≡ out.value = cc in
    let low : 0 < length items = omega (arith, length_permutation items (out.value ∷ rest) out.has) in
    let is : out.value ≡ t = sym same ∙ top.has ∙ get_or_default items 0 top.value t low ∙ sym c.in-Some.ensures.lookup in
    let popped = subst (λ x. IsPermutation items (x ∷ rest)) is out.has in
    let below : t < length c.loop-t.flags = All-permutation (λ k. k < length c.loop-t.flags) items (t ∷ rest) popped i.waits.below 0 t (omega arith) in
    let useless = subst (IsDummyRuleOf g t) c.in-None-rule_at.is c.rule_at.ensures in
    record {
      waits = waits_without c.loop-t.flags items rest t i.waits popped;
      heap = (order.has i.heap).0;
      kept = drops_one g c.args.flags.now c.loop-t.flags t i.kept below useless;
    }
