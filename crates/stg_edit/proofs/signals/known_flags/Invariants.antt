use Rattle.std.proofs.Common.{◌≡◌, ◌==◌, ◌||◌, ℕ, false, get_or, length, drop}
use Rattle.std.specs.List.{list_any}
use Rattle.stg_edit.proofs.signals.known_flags.Given as goal

-- a signal is flagged, or it is among those that are left, exactly where it is known
abbrev pub invariant-loop-signal : goal.invariant-loop-signal
invariant-loop-signal l = record {
  flagged : (s : ℕ) → (get_or l.flags.items s false || list_any (λ k. k == s) (drop l.signal-index l.known)) ≡ list_any (λ k. k == s) l.known;
  len : length l.flags.items ≡ l.signals;
}
