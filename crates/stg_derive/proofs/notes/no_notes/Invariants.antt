use Rattle.std.proofs.Common.{◌≡◌, ℕ, None, length, get_or}
use Rattle.stg_derive.proofs.notes.no_notes.Given as goal

abbrev pub invariant-loop-s : goal.invariant-loop-s
invariant-loop-s l = record {
  nothing : (k : ℕ) → get_or l.notes.items k None ≡ None;
  long : length l.notes.items ≡ l._s;
}
