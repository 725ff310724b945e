use Rattle.std.proofs.Common.{rules, ◌≡◌, true, false, None, get_or, is_some, sym, arith}
use Rattle.std.specs.List.{list_any}
use Rattle.stg_edit.specs.Walks.{taking_trans}
use Rattle.stg_conflict.specs.inner.Labels.{is_of_signal}
use Rattle.stg_conflict.specs.inner.Notes.{is_like, clashes_with, note_at}
use Rattle.stg_conflict.proofs.Noting.{and_fails, note_or-fails, stays_noted}
use Rattle.stg_conflict.proofs.noted.note_taker.Goals as goal
use Rattle.stg_conflict.proofs.noted.note_taker.Goals.{else-is_none-via-then-is_none+else-has_like, else-is_none-via-else-is_none}

pub returns-else-is_none-clause-noted : goal.returns-else-is_none-clause-noted
returns-else-is_none-clause-noted c = λ s below.
    let g = c.args.editor.now.now in
    let signals = c.args.editor.now.signals in
    let u = c.args.u in
    let p = c.args.p in
    let noted = c.args.noted.now in
    elim c.else-is_none.branch [
      | else-is_none-via-then-is_none+else-has_like w ↦
          let none : list_any (is_like g u) (taking_trans g p) ≡ false = search rules in
          sym (note_or-fails (clashes_with g signals p s u) c.args.step (note_at noted s) (and_fails (is_of_signal signals s g u) (list_any (is_like g u) (taking_trans g p)) none))
      | else-is_none-via-else-is_none w ↦
          let there : is_some (get_or noted c.name-signal.result.signal None) ≡ true = search rules in
          stays_noted signals s u p c.args.step g c.name-signal.result noted c.signals-names.ensures.names c.name-signal.ensures.signal (omega (arith, below, c.requires.len)) c.name-signal.ensures.name there
    ]
