use Rattle.std.proofs.Common.{heap_items, heap_len}
use Rattle.std.specs.BinaryHeap.{IsHeap}
use Rattle.std.specs.Ordering.{nat_cmp}
use Rattle.stg_redundant.specs.FlaggedDummies.{DropsUseful}
use Rattle.stg_redundant.specs.inner.Flagging.{AreWaiting}
use Rattle.stg_redundant.proofs.dummy_watch.find_greatest.Given as goal

abbrev pub invariant-loop-t : goal.invariant-loop-t
invariant-loop-t l = record {
  waits : AreWaiting l.flags (heap_items l.waiting);
  heap : IsHeap nat_cmp (heap_items l.waiting);
  kept : DropsUseful l.editor.now l.initial.flags l.flags;
}

abbrev pub decreases-loop-t : goal.decreases-loop-t
decreases-loop-t l = heap_len l.waiting
