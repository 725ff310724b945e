use Rattle.std.proofs.Common.{heap_items, ◌++◌, subst}
use Rattle.std.specs.List.Sorted.{IsPermutation}
use Rattle.stg_contract.specs.inner.Queues.{Queued, stored_entries}
use Rattle.stg_contract.proofs.QueueOrder.{stored-joined}
use Rattle.stg_contract.proofs.queue.Queue.put_back.Goals as goal

pub returns-clause-waiting : goal.returns-clause-waiting
returns-clause-waiting c =
    let joined = rw c.unwrap.ensures at c.append.ensures.permutation in
    subst (λ (q : Queued). IsPermutation (q.waiting ++ q.aside) (stored_entries (heap_items c.append.new.self))) c.self.view_is
    (stored-joined (heap_items c.self.inside.waiting) (heap_items c.self.inside.aside) (heap_items c.append.new.self) joined)
