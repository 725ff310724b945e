use Rattle.std.proofs.Common.{sym, subst, ap, ◌∙◌}
use Rattle.stg_edit.specs.Editing.{Editing}
use Rattle.stg_edit.specs.Drafts.{IsDraft}
use Rattle.stg_edit.specs.inner.Nodes.{IsNode, walk_arcs}
use Rattle.stg_edit.specs.inner.View.{base}
use Rattle.stg_edit.proofs.DraftChanges.{node_lives}
use Rattle.stg_edit.proofs.DraftFacts.{is_draft}
use Rattle.stg_edit.proofs.DraftWalks.{along}
use Rattle.stg_edit.proofs.editor.Editor.walk.Goals as goal

pub of-requires-clause-in_range : goal.of-requires-clause-in_range
of-requires-clause-in_range c =
    let P : Editing → Type 0 = λ v. IsNode c.args.end v.now c.args.node in
    (node_lives c.args.end (base c.self.inside) c.args.node c.self.inside.arena c.self.invariant.arena.timed (subst P (sym c.self.view_is) c.requires)).0

pub of-requires-clause-live : goal.of-requires-clause-live
of-requires-clause-live c =
    let P : Editing → Type 0 = λ v. IsNode c.args.end v.now c.args.node in
    (node_lives c.args.end (base c.self.inside) c.args.node c.self.inside.arena c.self.invariant.arena.timed (subst P (sym c.self.view_is) c.requires)).1

pub returns-clause-value : goal.returns-clause-value
returns-clause-value c =
    let P : Editing → Type 0 = λ v. IsNode c.args.end v.now c.args.node in
    let timed = c.self.invariant.arena.timed in
    let live = node_lives c.args.end (base c.self.inside) c.args.node c.self.inside.arena timed (subst P (sym c.self.view_is) c.requires) in
    c.of.ensures ∙ along (base c.self.inside) c.self.inside.arena c.args.end c.args.way c.args.node timed live.0 live.1 ∙ ap (λ v. walk_arcs v.now c.args.end c.args.way c.args.node) c.self.view_is

pub returns-clause-draft : goal.returns-clause-draft
returns-clause-draft c = subst IsDraft c.self.view_is (is_draft c.self.inside c.self.invariant)
