use Rattle.std.proofs.Common.{◌≡◌, ◌++◌, zero, map, length}
use Rattle.astg_read.specs.Targets.{targets_after}
use Rattle.astg_read.specs.inner.Views.{target_view, texts}
use Rattle.astg_read.proofs.targets.targets_of.Given as goal

abbrev pub invariant-loop-rest : goal.invariant-loop-rest
invariant-loop-rest l = map target_view l.targets ++ targets_after zero (texts l.rest) ≡ targets_after zero (texts l.words)

abbrev pub decreases-loop-rest : goal.decreases-loop-rest
decreases-loop-rest l = length l.rest
