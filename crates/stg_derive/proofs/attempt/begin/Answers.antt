use Rattle.std.proofs.Common.{◌∙◌, length, sym, ap, subst}
use Rattle.stg_edit.specs.Editing.{Editing}
use Rattle.stg_derive.specs.declared.attempt.Attempt.{Attempt}
use Rattle.stg_derive.specs.inner.UnderWay.{IsAttemptSoFar}
use Rattle.stg_derive.proofs.Undone.{begun}
use Rattle.stg_derive.proofs.attempt.begin.Goals as goal

pub returns-clause-under_way : goal.returns-clause-under_way
returns-clause-under_way c =
    let n = c.args.net.now in
    let attempt : Editing → Attempt = λ e. record { known = c.in_ok-from_slice.field-0; editor = e; steps = c.new.result; first_undone = c.in_ok-no_notes.field-0; watches = c.in_ok-watches.watches } in
    subst (λ e. IsAttemptSoFar n (attempt e)) (sym c.editor.view_is)
    (begun n c.requires.within c.requires.no_conflict c.requires.is_net (attempt c.in_ok-editor.editor) c.args.known.now c.requires.in_range (c.in_ok-from_slice.ensures ∙ c.as_slice.ensures) c.in_ok-editor.ensures.now c.in_ok-editor.ensures.past c.in_ok-editor.ensures.signals c.new.ensures.items
    (c.in_ok-no_notes.ensures.len ∙ ap length c.signals.ensures.signals) c.in_ok-no_notes.ensures.nothing)
