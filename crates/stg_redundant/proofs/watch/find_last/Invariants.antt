use Rattle.std.proofs.Common.{◌≡◌, length}
use Rattle.std.specs.List.Sorted.{IsStrictlyIncreasing}
use Rattle.stg_redundant.specs.Watching.{KeepsRedundant, HasNoneBesides}
use Rattle.stg_redundant.proofs.watch.find_last.Given as goal

abbrev pub invariant-loop-p : goal.invariant-loop-p
invariant-loop-p l = record {
  kept : KeepsRedundant l.editor.now l.fn.numbers.items l.numbers.items;
  dropped : HasNoneBesides l.fn.numbers.items l.numbers.items;
  ascending : IsStrictlyIncreasing l.numbers.items;
  long : length l.rooms ≡ length l.editor.now.trans;
}

abbrev pub decreases-loop-p : goal.decreases-loop-p
decreases-loop-p l = length l.numbers.items
