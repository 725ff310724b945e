use Rattle.std.proofs.Common.{◌≡◌, ◌<◌, ℕ, false}
use Rattle.astg_write.specs.PlaceNames.{is_free, prefix_text}
use Rattle.astg_write.proofs.place.find_prefix.Given as goal

abbrev pub invariant-loop-number : goal.invariant-loop-number
invariant-loop-number l = (k : ℕ) → k < l.number → is_free l.signals (prefix_text k) ≡ false
