use Rattle.std.proofs.Common.{sym, subst, ap, ◌∙◌}
use Rattle.stg_net.specs.Graph.{IsPlace, tokens_at}
use Rattle.stg_edit.specs.Editing.{Editing}
use Rattle.stg_edit.specs.inner.View.{base}
use Rattle.stg_edit.proofs.DraftChanges.{place_lives}
use Rattle.stg_edit.proofs.DraftOfLive.{tokens_now}
use Rattle.stg_edit.proofs.editor.Editor.tokens.Goals as goal

pub tokens-requires : goal.tokens-requires
tokens-requires c =
    let P : Editing → Type 0 = λ v. IsPlace v.now c.args.p in
    (place_lives (base c.self.inside) c.args.p c.self.inside.arena c.self.invariant.arena.timed (subst P (sym c.self.view_is) c.requires)).0

pub returns : goal.returns
returns c =
    let P : Editing → Type 0 = λ v. IsPlace v.now c.args.p in
    let live = place_lives (base c.self.inside) c.args.p c.self.inside.arena c.self.invariant.arena.timed (subst P (sym c.self.view_is) c.requires) in
    c.tokens.ensures ∙ sym (tokens_now (base c.self.inside) c.self.inside.arena c.args.p c.self.invariant.arena.timed live.0 live.1) ∙ ap (λ v. tokens_at v.now c.args.p) c.self.view_is
