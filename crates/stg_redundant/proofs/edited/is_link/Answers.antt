use Rattle.std.proofs.Common.{◌↔◌, Bool, IsTrue, sym, subst}
use Rattle.std.proofs.lemmas.Bool.{false≢true}
use Rattle.stg_redundant.specs.Watching.{IsLinkPlace}
use Rattle.stg_redundant.proofs.EditedPlaces.{link_live}
use Rattle.stg_redundant.proofs.Reaching.{link_told}
use Rattle.stg_redundant.proofs.edited.is_link.Goals as goal

pub returns-then-is_place : goal.returns-then-is_place
returns-then-is_place c =
    let g = c.args.editor.now.now in
    let p = c.args.p in
    subst (λ (b : Bool). IsTrue b ↔ IsLinkPlace g p) (sym c.is_some.ensures) (link_told g p c.link_at.result c.is_place.ensures.draft.narrow c.link_at.ensures)

pub returns : goal.returns
returns c = (λ told. absurd (false≢true told), λ x. absurd (false≢true (c.if-is_place.ensures.value.1 (link_live c.args.editor.now.now c.args.editor.now.now c.args.p x.giver x.taker x.link))))
