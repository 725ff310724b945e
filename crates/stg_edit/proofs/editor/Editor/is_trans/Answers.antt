use Rattle.std.proofs.Common.{subst, ◌↔◌, ◌∙◌, IsTrue}
use Rattle.std.proofs.lemmas.List.{length-map}
use Rattle.stg_net.specs.Graph.{IsTrans}
use Rattle.stg_edit.specs.Editing.{Editing, full_name_in}
use Rattle.stg_edit.specs.inner.View.{base}
use Rattle.stg_edit.proofs.DraftChanges.{trans_lives}
use Rattle.stg_edit.proofs.DraftOfLive.{is_trans_now}
use Rattle.stg_edit.specs.Drafts.{IsDraft}
use Rattle.stg_edit.proofs.DraftFacts.{is_draft}
use Rattle.stg_edit.proofs.editor.Editor.is_trans.Goals as goal

pub returns-clause-value : goal.returns-clause-value
returns-clause-value c =
    let P : Editing → Type 0 = λ v. IsTrue c.is_live.result ↔ IsTrans v.now c.args.t in
    let l = c.self.inside.arena in
    let x = base c.self.inside in
    let long = length-map c.self.inside.names (full_name_in c.self.inside.signals) ∙ c.self.invariant.names_long in
    subst P c.self.view_is (λ yes. is_trans_now x l c.args.t c.self.invariant.arena.timed long (c.is_live.ensures.0 yes), λ live. c.is_live.ensures.1 (trans_lives x c.args.t l c.self.invariant.arena.timed live))

pub returns-clause-draft : goal.returns-clause-draft
returns-clause-draft c = subst IsDraft c.self.view_is (is_draft c.self.inside c.self.invariant)
