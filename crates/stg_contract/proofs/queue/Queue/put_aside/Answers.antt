use Rattle.std.proofs.Common.{heap_items, ◌∷◌, subst}
use Rattle.std.specs.List.Sorted.{IsPermutation}
use Rattle.stg_contract.specs.inner.Queues.{Queued, stored_entries}
use Rattle.stg_contract.proofs.QueueOrder.{stored-permutation}
use Rattle.stg_contract.proofs.queue.Queue.put_aside.Goals as goal

pub returns-clause-aside : goal.returns-clause-aside
returns-clause-aside c =
    let pushed = rw c.unwrap.ensures at c.push.ensures.permutation in
    subst (λ (q : Queued). IsPermutation ((c.args.places, c.args.t) ∷ q.aside) (stored_entries (heap_items c.push.new.self))) c.self.view_is
    (stored-permutation (record { 0 = (c.args.places, c.args.t) } ∷ heap_items c.self.inside.aside) (heap_items c.push.new.self) pushed)
