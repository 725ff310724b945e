use Rattle.std.proofs.Common.{subst, ◌↔◌, IsTrue}
use Rattle.stg_net.specs.Graph.{IsPlace}
use Rattle.stg_edit.specs.Editing.{Editing}
use Rattle.stg_edit.specs.inner.View.{base}
use Rattle.stg_edit.proofs.DraftChanges.{place_lives}
use Rattle.stg_edit.proofs.DraftOfLive.{is_place_now}
use Rattle.stg_edit.specs.Drafts.{IsDraft}
use Rattle.stg_edit.proofs.DraftFacts.{is_draft}
use Rattle.stg_edit.proofs.editor.Editor.is_place.Goals as goal

pub returns-clause-value : goal.returns-clause-value
returns-clause-value c =
    let P : Editing → Type 0 = λ v. IsTrue c.is_live.result ↔ IsPlace v.now c.args.p in
    let l = c.self.inside.arena in
    let x = base c.self.inside in
    subst P c.self.view_is (λ yes. is_place_now x l c.args.p c.self.invariant.arena.timed (c.is_live.ensures.0 yes), λ live. c.is_live.ensures.1 (place_lives x c.args.p l c.self.invariant.arena.timed live))

pub returns-clause-draft : goal.returns-clause-draft
returns-clause-draft c = subst IsDraft c.self.view_is (is_draft c.self.inside c.self.invariant)
