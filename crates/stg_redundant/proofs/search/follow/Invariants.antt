use Rattle.std.proofs.Common.{◌≡◌, length}
use Rattle.std.specs.BinaryHeap.{heap_items}
use Rattle.stg_redundant.specs.inner.Chains.{ArePassed}
use Rattle.stg_redundant.proofs.search.follow.Given as goal

abbrev pub invariant-loop-q : goal.invariant-loop-q
invariant-loop-q l = record {
  long : length l.rooms ≡ length l.editor.now.trans;
  followed : ArePassed l.editor.now l.sought.place l.sought.taker l.t l.q-iterator l.fn.rooms l.rooms (heap_items l.fn.list) (heap_items l.list);
}
