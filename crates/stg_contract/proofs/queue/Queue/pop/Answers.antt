use Rattle.std.proofs.Common.{heap_items, ◌∷◌, subst}
use Rattle.std.specs.List.Sorted.{IsPermutation}
use Rattle.stg_contract.specs.inner.Queues.{Queued, stored_entries}
use Rattle.stg_contract.proofs.QueueOrder.{first_of_heap, stored-permutation}
use Rattle.stg_contract.proofs.queue.Queue.pop.Goals as goal

pub returns-in-Some-clause-waiting : goal.returns-in-Some-clause-waiting
returns-in-Some-clause-waiting c =
    subst (λ (q : Queued). IsPermutation q.waiting (c.in-Some.field-0.0 ∷ stored_entries (heap_items c.pop.new.self))) c.self.view_is
    (stored-permutation (heap_items c.self.inside.waiting) (c.in-Some.field-0 ∷ heap_items c.pop.new.self) c.in-Some.ensures.permutation)

pub returns-in-Some-clause-first : goal.returns-in-Some-clause-first
returns-in-Some-clause-first c =
    first_of_heap c.in-Some.field-0 (heap_items c.pop.new.self) (c.in-Some.ensures.below_top c.self.invariant.0)
