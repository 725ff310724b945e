use Rattle.std.proofs.Common.{◌≡◌, ◌<◌, ℕ, false}
use Rattle.stg_redundant.specs.inner.Tests.{is_same_place}
use Rattle.stg_redundant.proofs.places.find_same_among_all.Given as goal

abbrev pub invariant-loop-q : goal.invariant-loop-q
invariant-loop-q l = (v : ℕ) → v < l.q → is_same_place l.editor.now l.p v ≡ false
