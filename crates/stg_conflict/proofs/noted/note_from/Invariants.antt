use Rattle.std.proofs.Common.{◌≡◌, ◌≤◌, ◌-◌, ◌⊎◌, length}
use Rattle.std.specs.List.{list_any, range_with_len}
use Rattle.stg_conflict.specs.inner.Notes.{clashes_at, AreNotedFurther}
use Rattle.stg_conflict.proofs.noted.note_from.Given as goal

-- the notes of the places so far
abbrev pub invariant-loop-p : goal.invariant-loop-p
invariant-loop-p l = record {
  low : l.first ≤ l.p;
  high : (l.p ≡ l.first) ⊎ (l.p ≤ length l.editor.now.places);
  len : length l.noted ≡ length l.initial.noted;
  noted : AreNotedFurther (λ s. list_any (clashes_at l.editor.now l.editor.signals s) (range_with_len l.first (l.p - l.first))) l.step l.initial.noted l.noted;
}
