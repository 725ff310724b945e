use Rattle.stg_edit.specs.inner.Filling.{IsFilled}
use Rattle.stg_edit.proofs.build.push_places.Given as goal

abbrev pub invariant-loop-place : goal.invariant-loop-place
invariant-loop-place l = IsFilled l.net l.place l.place l.at l.arena
