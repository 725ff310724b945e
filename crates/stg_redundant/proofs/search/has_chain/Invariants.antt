use Rattle.std.proofs.Common.{◌+◌}
use Rattle.std.specs.BinaryHeap.{heap_items}
use Rattle.stg_redundant.specs.inner.Chains.{IsSearch, effort}
use Rattle.stg_redundant.proofs.search.has_chain.Given as goal

abbrev pub invariant-loop-rooms : goal.invariant-loop-rooms
invariant-loop-rooms l = IsSearch l.editor.now l.sought.place l.sought.giver l.sought.taker (l.sought.tokens + 1) l.rooms (heap_items l.list)

abbrev pub decreases-loop-rooms : goal.decreases-loop-rooms
decreases-loop-rooms l = effort (l.sought.tokens + 1) l.rooms (heap_items l.list)
