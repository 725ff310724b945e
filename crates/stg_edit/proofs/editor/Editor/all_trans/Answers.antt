use Rattle.std.proofs.Common.{length, sym, ap, ◌∙◌, subst}
use Rattle.std.proofs.lemmas.List.FromFn.{length-map-range_with_len}
use Rattle.stg_edit.specs.inner.DraftAt.{draft_name}
use Rattle.stg_edit.specs.inner.View.{base}
use Rattle.stg_edit.specs.Drafts.{IsDraft}
use Rattle.stg_edit.proofs.DraftFacts.{is_draft}
use Rattle.stg_edit.proofs.editor.Editor.all_trans.Goals as goal

pub returns-clause-value : goal.returns-clause-value
returns-clause-value c =
    let l = c.self.inside.arena in
    c.count_trans.ensures ∙ sym (length-map-range_with_len (draft_name l (base c.self.inside).names (length l.removals)) 0 (length l.trans)) ∙ ap (λ v. length v.now.trans) c.self.view_is

pub returns-clause-draft : goal.returns-clause-draft
returns-clause-draft c = subst IsDraft c.self.view_is (is_draft c.self.inside c.self.invariant)
