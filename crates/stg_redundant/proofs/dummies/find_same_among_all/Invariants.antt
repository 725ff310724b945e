use Rattle.std.proofs.Common.{◌≡◌, ◌<◌, ℕ, false}
use Rattle.stg_redundant.specs.inner.Tests.{is_same_dummy}
use Rattle.stg_redundant.proofs.dummies.find_same_among_all.Given as goal

abbrev pub invariant-loop-u : goal.invariant-loop-u
invariant-loop-u l = (v : ℕ) → v < l.u → is_same_dummy l.editor.now l.t v ≡ false
