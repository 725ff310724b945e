use Rattle.std.proofs.Common.{inl, inr, arith}
use Rattle.std.proofs.lemmas.Bool.{cases_lt, false≢true}
use Rattle.stg_redundant.proofs.EditedPlaces.{link_live}
use Rattle.stg_redundant.proofs.RuleTests.{place_below}
use Rattle.stg_redundant.proofs.edited.has_new_link.Goals as goal

pub returns : goal.returns
returns c =
    let g = c.args.editor.now.now in (
      λ told. absurd (false≢true told),
      λ h. elim (cases_lt h.place c.loop-p.p) [
        | inl low ↦ absurd (c.loop-p.invariant h.place h.one low h.is_link)
        | inr past ↦
            let below = place_below g h.place (link_live g g h.place h.is_link.giver h.is_link.taker h.is_link.link) in
            absurd (omega (arith, below, past, c.loop-p-test.false, c.next_place-p-end.ensures.value))
      ],
    )
