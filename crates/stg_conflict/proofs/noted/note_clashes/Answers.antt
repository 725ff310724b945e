use Rattle.stg_conflict.specs.inner.Notes.{note_at}
use Rattle.stg_conflict.proofs.Noting.{is_noted}
use Rattle.stg_conflict.proofs.noted.note_clashes.Goals as goal

pub returns-clause-noted : goal.returns-clause-noted
returns-clause-noted c = λ s below.
    is_noted c.args.editor.now.signals s c.args.editor.now.now c.args.first c.args.step (note_at c.args.noted.now s) (note_at c.note_from.new.noted s) (c.note_from.ensures.noted s below)
