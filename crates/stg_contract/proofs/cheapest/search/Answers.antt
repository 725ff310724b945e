use Rattle.std.proofs.Common.{◌∷◌, sym, subst, arith}
use Rattle.std.proofs.lemmas.List.Sorted.{sum_by_popped}
use Rattle.stg_contract.specs.inner.Watches.{IsUnderWay, toil_of}
use Rattle.stg_contract.proofs.WatchSteps.{reordered, there, is_cheapest, way_ends}
use Rattle.stg_contract.proofs.cheapest.search.Goals as goal

pub advance-requires-clause-below : goal.advance-requires-clause-below
advance-requires-clause-below c =
    let g = c.args.editor.now.now in
    let q = c.loop-queue.queue in
    let way = reordered g c.args.least.now c.loop-queue.least q.waiting ((c.in-Some.places, c.in-Some.t) ∷ c.pop.new.self.waiting) q.aside c.loop-queue.invariant c.in-Some.ensures.waiting in
    there g c.args.least.now c.loop-queue.least c.in-Some.t c.in-Some.places c.pop.new.self.waiting q.aside way

pub returns-then-advance-clause-some : goal.returns-then-advance-clause-some
returns-then-advance-clause-some c watches =
    let g = c.args.editor.now.now in
    let q = c.loop-queue.queue in
    let way = reordered g c.args.least.now c.loop-queue.least q.waiting ((c.in-Some.places, c.in-Some.t) ∷ c.pop.new.self.waiting) q.aside c.loop-queue.invariant c.in-Some.ensures.waiting in
    let found = c.advance.ensures.found c.if-advance.true in
    is_cheapest g c.args.least.now c.loop-queue.least c.in-Some.t c.in-Some.places c.pop.new.self.waiting q.aside way watches c.in-Some.ensures.first found.1 found.0

-- how the search stands after the entry
later : (c : goal.After-put_back-then-advance) → IsUnderWay c.args.editor.now.now c.args.least.now c.advance.new.least c.advance.new.queue.waiting c.advance.new.queue.aside
later c =
    let g = c.args.editor.now.now in
    let q = c.loop-queue.queue in
    let way = reordered g c.args.least.now c.loop-queue.least q.waiting ((c.in-Some.places, c.in-Some.t) ∷ c.pop.new.self.waiting) q.aside c.loop-queue.invariant c.in-Some.ensures.waiting in
    c.advance.ensures.way c.args.least.now (subst (IsUnderWay g c.args.least.now c.loop-queue.least ((c.in-Some.places, c.in-Some.t) ∷ c.pop.new.self.waiting)) (sym c.pop.ensures.aside) way)

pub returns-then-advance-clause-kept : goal.returns-then-advance-clause-kept
returns-then-advance-clause-kept c = (later c).drops

pub returns-then-advance-clause-least : goal.returns-then-advance-clause-least
returns-then-advance-clause-least c = (later c).least

pub returns-then-advance-clause-queued : goal.returns-then-advance-clause-queued
returns-then-advance-clause-queued c =
    way_ends c.args.editor.now.now c.args.least.now c.advance.new.least c.advance.new.queue.waiting c.advance.new.queue.aside c.put_back-then-advance.new.self (later c) c.put_back-then-advance.ensures.waiting c.put_back-then-advance.ensures.aside

pub loop-queue-smaller : goal.loop-queue-smaller
loop-queue-smaller c =
    let g = c.args.editor.now.now in
    omega (
      arith,
      c.advance.ensures.less c.if-advance.false,
      sum_by_popped (toil_of g) (c.in-Some.places, c.in-Some.t) c.loop-queue.queue.waiting c.pop.new.self.waiting c.in-Some.ensures.waiting,
    )

pub loop-queue-preserved : goal.loop-queue-preserved
loop-queue-preserved c =
    let g = c.args.editor.now.now in
    let q = c.loop-queue.queue in
    let way = reordered g c.args.least.now c.loop-queue.least q.waiting ((c.in-Some.places, c.in-Some.t) ∷ c.pop.new.self.waiting) q.aside c.loop-queue.invariant c.in-Some.ensures.waiting in
    c.advance.ensures.way c.args.least.now (subst (IsUnderWay g c.args.least.now c.loop-queue.least ((c.in-Some.places, c.in-Some.t) ∷ c.pop.new.self.waiting)) (sym c.pop.ensures.aside) way)
