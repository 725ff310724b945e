use Rattle.std.proofs.Common.{◌≡◌, ℕ, ◌<◌, false}
use Rattle.stg_partition.specs.inner.Numbers.{is_unnumbered}
use Rattle.stg_partition.proofs.numbering.find_unnumbered.Given as goal

-- none so far is unnumbered
abbrev pub invariant-loop-s : goal.invariant-loop-s
invariant-loop-s l = (r : ℕ) → r < l.s → is_unnumbered l.net l.numbers r ≡ false
