use Rattle.std.proofs.Common.{length, ◌-◌}
use Rattle.astg_read.specs.inner.NoDummies.{without_dummies}
use Rattle.astg_read.specs.inner.MarkingCheck.{IsSettled}
use Rattle.astg_read.specs.inner.Views.{slices_view}
use Rattle.astg_read.proofs.marking_check.MarkingCheck.has_bad_entry.Given as goal

abbrev pub invariant-loop-self : goal.invariant-loop-self
invariant-loop-self l = IsSettled l.most (without_dummies l.signals) l.graph.places l.self (slices_view l.words)

abbrev pub decreases-loop-self : goal.decreases-loop-self
decreases-loop-self l = length l.words - l.self.words
