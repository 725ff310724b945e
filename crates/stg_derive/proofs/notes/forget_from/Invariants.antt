use Rattle.std.proofs.Common.{◌≡◌, ◌<◌, ◌≤◌, ℕ, None, length, get_or}
use Rattle.stg_derive.specs.inner.UnderWay.{noted_below}
use Rattle.stg_derive.proofs.notes.forget_from.Given as goal

abbrev pub invariant-loop-s : goal.invariant-loop-s
invariant-loop-s l = record {
  done : (k : ℕ) → k < l.s → get_or l.noted k None ≡ noted_below l.kept (get_or l.initial.noted k None);
  left : (k : ℕ) → l.s ≤ k → get_or l.noted k None ≡ get_or l.initial.noted k None;
  long : length l.noted ≡ length l.initial.noted;
}
