use Rattle.std.proofs.Common.{◌≡◌, ◌<◌, ℕ, true}
use Rattle.stg_contract.specs.inner.Tests.{is_left}
use Rattle.stg_contract.specs.inner.Sums.{is_large_at}
use Rattle.stg_contract.proofs.large.has_large_place.Given as goal

abbrev pub invariant-loop-p : goal.invariant-loop-p
invariant-loop-p l = (q : ℕ) → q < l.p → is_left l.editor.now l.t q ≡ true → ¬ (is_large_at l.editor.now q ≡ true)
