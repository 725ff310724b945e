use Rattle.std.proofs.Common.{◌≡◌, ◌++◌, ◌∷◌, [], length, map, sym, ap, ◌∙◌, subst, arith}
use Rattle.std.specs.List.Sorted.{IsPermutation}
use Rattle.std.proofs.lemmas.List.Sorted.{IsPermutation-trans, length_permutation}
use Rattle.stg_contract.specs.inner.Queues.{Queued}
use Rattle.stg_contract.specs.inner.Watches.{unweighed_entry}
use Rattle.stg_contract.proofs.WatchSteps.{forgotten}
use Rattle.stg_contract.proofs.cheapest.forget_entries.Goals as goal

pub returns-in-None-clause-waiting : goal.returns-in-None-clause-waiting
returns-in-None-clause-waiting c =
    let all = map unweighed_entry c.args.queue.now.waiting in
    let end = c.pop.ensures.none c.in-None.is in
    let none : c.pop.new.self.waiting ≡ [] = ap (λ (q : Queued). q.waiting) end.1 ∙ end.0 in
    let aside = subst (λ xs. IsPermutation all (map unweighed_entry xs ++ c.loop-queue.queue.aside)) end.0 c.loop-queue.invariant in
    let back = subst (λ xs. IsPermutation (xs ++ c.pop.new.self.aside) c.put_back.new.self.waiting) none c.put_back.ensures.waiting in
    IsPermutation-trans all c.loop-queue.queue.aside c.put_back.new.self.waiting aside
    (subst (λ xs. IsPermutation xs c.put_back.new.self.waiting) c.pop.ensures.aside back)

pub loop-queue-smaller : goal.loop-queue-smaller
loop-queue-smaller c =
    omega (
      arith,
      length_permutation c.loop-queue.queue.waiting ((c.in-Some.field-0-0, c.in-Some.t) ∷ c.pop.new.self.waiting) c.in-Some.ensures.waiting,
      ap length c.put_aside.ensures.waiting,
    )

pub loop-queue-preserved : goal.loop-queue-preserved
loop-queue-preserved c =
    let all = c.args.queue.now.waiting in
    let step = forgotten all c.loop-queue.queue.waiting c.pop.new.self.waiting c.pop.new.self.aside c.put_aside.new.self.aside c.in-Some.field-0-0 c.in-Some.t
    (subst (λ aside. IsPermutation (map unweighed_entry all) (map unweighed_entry c.loop-queue.queue.waiting ++ aside)) (sym c.pop.ensures.aside) c.loop-queue.invariant)
    c.in-Some.ensures.waiting c.put_aside.ensures.aside in
    subst (λ waiting. IsPermutation (map unweighed_entry all) (map unweighed_entry waiting ++ c.put_aside.new.self.aside)) (sym c.put_aside.ensures.waiting) step
