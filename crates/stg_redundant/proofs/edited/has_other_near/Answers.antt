use Rattle.std.proofs.Common.{sym, ◌∙◌, subst, inl, inr}
use Rattle.std.proofs.lemmas.Bool.{false≢true}
use Rattle.stg_redundant.specs.inner.Chains.{IsAmong}
use Rattle.stg_redundant.proofs.Reaching.{near_is}
use Rattle.stg_redundant.proofs.edited.has_other_near.Goals as goal

pub returns-then-has_other : goal.returns-then-has_other
returns-then-has_other c =
    let g = c.args.editor.now.now in
    let t = c.args.t in
    let h = c.has_other.ensures.0 c.if-has_other.true in (
      λ told. record {
        place = h.place;
        one = (near_is g t h.place).0 (inl (subst (IsAmong h.place) c.takes.ensures.value h.one));
        no_link = h.no_link;
      },
      λ other. c.if-has_other.true,
    )

pub returns-else-has_other : goal.returns-else-has_other
returns-else-has_other c =
    let g = c.args.editor.now.now in
    let t = c.args.t in (
      λ told. let h = c.has_other-else-has_other.ensures.0 told in record {
        place = h.place;
        one = (near_is g t h.place).0 (inr (subst (IsAmong h.place) c.gives.ensures.value h.one));
        no_link = h.no_link;
      },
      λ x. elim ((near_is g t x.place).1 x.one) [
        | inl taken ↦ absurd (false≢true (sym c.if-has_other.false ∙ c.has_other.ensures.1 (record { place = x.place; one = subst (IsAmong x.place) (sym c.takes.ensures.value) taken; no_link = x.no_link })))
        | inr given ↦ c.has_other-else-has_other.ensures.1 (record { place = x.place; one = subst (IsAmong x.place) (sym c.gives.ensures.value) given; no_link = x.no_link })
      ],
    )
