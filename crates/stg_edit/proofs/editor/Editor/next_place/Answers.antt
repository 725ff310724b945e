use Rattle.std.proofs.Common.{length, sym, ap, ◌∙◌, subst}
use Rattle.std.proofs.lemmas.List.FromFn.{length-map-range_with_len}
use Rattle.stg_edit.specs.inner.Table.{table_place}
use Rattle.stg_edit.specs.inner.DraftAt.{table_at}
use Rattle.stg_edit.specs.Drafts.{IsDraft}
use Rattle.stg_edit.proofs.DraftFacts.{is_draft}
use Rattle.stg_edit.proofs.editor.Editor.next_place.Goals as goal

pub returns-clause-value : goal.returns-clause-value
returns-clause-value c =
    let l = c.self.inside.arena in
    c.count_places.ensures ∙ sym (length-map-range_with_len (table_place (length l.trans) (table_at l (length l.removals))) 0 (length l.places)) ∙ ap (λ v. length v.now.places) c.self.view_is

pub returns-clause-draft : goal.returns-clause-draft
returns-clause-draft c = subst IsDraft c.self.view_is (is_draft c.self.inside c.self.invariant)
