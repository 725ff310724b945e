use Rattle.stg_contract.specs.inner.Watches.{IsUnderWay, toil}
use Rattle.stg_contract.proofs.cheapest.search.Given as goal

abbrev pub invariant-loop-queue : goal.invariant-loop-queue
invariant-loop-queue l = IsUnderWay l.editor.now l.initial.least l.least l.queue.waiting l.queue.aside

abbrev pub decreases-loop-queue : goal.decreases-loop-queue
decreases-loop-queue l = toil l.editor.now l.queue.waiting
