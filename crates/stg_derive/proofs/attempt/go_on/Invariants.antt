use Rattle.std.proofs.Common.{◌≡◌}
use Rattle.stg_derive.specs.inner.UnderWay.{IsAttemptSoFar}
use Rattle.stg_derive.specs.inner.Watching.{IsWatching}
use Rattle.stg_derive.proofs.UnderWay.{left}
use Rattle.stg_derive.proofs.attempt.go_on.Given as goal

abbrev pub invariant-loop-step : goal.invariant-loop-step
invariant-loop-step l = record {
  under_way : IsAttemptSoFar l.net l.attempt;
  watching : IsWatching l.attempt.editor.now l.attempt.watches;
  undone : l.attempt.editor.undone ≡ l.initial.attempt.editor.undone;
  known : l.attempt.known ≡ l.initial.attempt.known;
}

abbrev pub decreases-loop-step : goal.decreases-loop-step
decreases-loop-step l = left l.attempt.editor.now
