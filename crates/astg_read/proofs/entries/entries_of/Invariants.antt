use Rattle.std.proofs.Common.{◌≡◌, ◌++◌, zero, length}
use Rattle.astg_read.specs.Markings.{entries_after}
use Rattle.astg_read.specs.inner.Views.{entry_views, slices_view}
use Rattle.astg_read.proofs.entries.entries_of.Given as goal

abbrev pub invariant-loop-rest : goal.invariant-loop-rest
invariant-loop-rest l = entry_views l.entries ++ entries_after zero (slices_view l.rest) ≡ entries_after zero (slices_view l.words)

abbrev pub decreases-loop-rest : goal.decreases-loop-rest
decreases-loop-rest l = length l.rest
