use Rattle.std.proofs.Common.{◌≡◌, ◌<◌, ℕ, length}
use Rattle.stg_edit.specs.Walks.{taking_trans}
use Rattle.stg_conflict.specs.inner.Labels.{WalksTrans}
use Rattle.stg_conflict.specs.inner.Notes.{clashes_among, note_at, note_or}
use Rattle.stg_conflict.proofs.noted.note_place.Given as goal

-- the notes so far and what is left make the whole
abbrev pub invariant-loop-u : goal.invariant-loop-u
invariant-loop-u l = record {
  live : WalksTrans l.editor.now l.u-iterator;
  len : length l.noted ≡ length l.initial.noted;
  left : (s : ℕ) → s < length l.initial.noted
      → note_or (clashes_among l.editor.now l.editor.signals l.p l.u-iterator s) l.step (note_at l.noted s)
      ≡ note_or (clashes_among l.editor.now l.editor.signals l.p (taking_trans l.editor.now l.p) s) l.step (note_at l.initial.noted s);
}
