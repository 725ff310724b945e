use Rattle.std.proofs.Common.{◌++◌, map, length}
use Rattle.std.specs.List.Sorted.{IsPermutation}
use Rattle.stg_contract.specs.inner.Watches.{unweighed_entry}
use Rattle.stg_contract.proofs.cheapest.forget_entries.Given as goal

abbrev pub invariant-loop-queue : goal.invariant-loop-queue
invariant-loop-queue l = IsPermutation (map unweighed_entry l.initial.queue.waiting) (map unweighed_entry l.queue.waiting ++ l.queue.aside)

abbrev pub decreases-loop-queue : goal.decreases-loop-queue
decreases-loop-queue l = length l.queue.waiting
