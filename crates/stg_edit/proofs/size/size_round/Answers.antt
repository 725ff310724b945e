use Rattle.std.proofs.Common.{◌<◌, subst, sym, ap, ◌∙◌, inl, inr, arith}
use Rattle.std.proofs.lemmas.Bool.{cases_lt, false≢true}
use Rattle.stg_arena.specs.declared.end.End.TheVariants.{Place}
use Rattle.stg_arena.specs.ArenaView.{removed_at}
use Rattle.stg_edit.specs.inner.RemovedPlaces.{weights_at}
use Rattle.stg_edit.specs.declared.size.Size.{Size}
use Rattle.stg_edit.specs.inner.Sizes.{size_at, plus}
use Rattle.stg_edit.proofs.PairPlaces.{goes_on}
use Rattle.stg_edit.proofs.PresetRemoval.{at_place}
use Rattle.stg_edit.proofs.SizeLoops.{IsSizedRound, arcs_few, sizing_starts, sizing_past, sizing_on, sizing_few, sizing_ends}
use Rattle.stg_edit.proofs.size.size_round.Goals as goal
use Rattle.stg_edit.proofs.size.size_round.Goals.{then-not-is_weightless, else-not-is_weightless}

pub loop-x-init : goal.loop-x-init
loop-x-init c = sizing_starts c.args.t c.args.arena.now c.first-x.ensures.arena.laid c.first-x.ensures.arena.timed c.requires.in_range c.requires.live c.first-x.result c.first-x.ensures.first

pub size_at-requires-clause-in_range : goal.size_at-requires-clause-in_range
size_at-requires-clause-in_range c =
    omega (arith, c.far.ensures, (at_place c.args.arena.now c.args.t c.loop-x.x c.first-x.ensures.arena.laid c.first-x.ensures.arena.timed c.requires.in_range c.loop-x.invariant.walking c.loop-x-test.true).inside)

pub size_at-requires-clause-live : goal.size_at-requires-clause-live
size_at-requires-clause-live c =
    ap (removed_at c.args.arena.now Place) c.far.ensures ∙ (at_place c.args.arena.now c.args.t c.loop-x.x c.first-x.ensures.arena.laid c.first-x.ensures.arena.timed c.requires.in_range c.loop-x.invariant.walking c.loop-x-test.true).live

pub plus-size-requires-clause-places : goal.plus-size-requires-clause-places
plus-size-requires-clause-places c =
    let l = c.args.arena.now in
    let few = sizing_few c.args.t l c.first-x.ensures.arena.laid c.first-x.ensures.arena.timed c.requires.in_range c.requires.live c.loop-x.x c.loop-x.size c.loop-x.invariant c.loop-x-test.true c.requires.bounded in
    let here = at_place l c.args.t c.loop-x.x c.first-x.ensures.arena.laid c.first-x.ensures.arena.timed c.requires.in_range c.loop-x.invariant.walking c.loop-x-test.true in
    omega (arith, few.0, here.inside, c.first-x.ensures.arena.laid.sizes Place, ap (λ (s : Size). s.places) c.size_at.ensures)

pub plus-size-requires-clause-arcs : goal.plus-size-requires-clause-arcs
plus-size-requires-clause-arcs c =
    let l = c.args.arena.now in
    let few = sizing_few c.args.t l c.first-x.ensures.arena.laid c.first-x.ensures.arena.timed c.requires.in_range c.requires.live c.loop-x.x c.loop-x.size c.loop-x.invariant c.loop-x-test.true c.requires.bounded in
    let here = at_place l c.args.t c.loop-x.x c.first-x.ensures.arena.laid c.first-x.ensures.arena.timed c.requires.in_range c.loop-x.invariant.walking c.loop-x-test.true in
    omega (arith, few.1, here.inside, c.first-x.ensures.arena.laid.sizes Place, ap (λ (s : Size). s.arcs) c.size_at.ensures, arcs_few l c.far.result c.requires.bounded)

pub loop-x-smaller : goal.loop-x-smaller
loop-x-smaller c =
    goes_on c.args.arena.now c.args.t c.loop-x.x c.next-x.result c.first-x.ensures.arena.laid c.requires.in_range c.loop-x.invariant.walking c.loop-x-test.true c.next-x.ensures

pub loop-x-preserved : goal.loop-x-preserved
loop-x-preserved c =
    let l = c.args.arena.now in
    let x = c.loop-x.x in
    let z = c.next-x.result in
    let P : Size → Type 0 = IsSizedRound c.args.t l z in
    elim c.if-not-is_weightless.branch [
      | then-not-is_weightless w ↦
          let some : 0 < weights_at l x = elim (cases_lt 0 (weights_at l x)) [
            | inl h ↦ h
            | inr h ↦ absurd (false≢true (sym w.if-not-is_weightless.true ∙ c.is_weightless.ensures.1 (omega (arith, h))))
          ] in
          subst P (sym (w.size-is ∙ w.plus-size.ensures ∙ ap (plus c.loop-x.size) (w.size_at.ensures ∙ ap (size_at l Place) w.far.ensures)))
          (sizing_on c.args.t l c.first-x.ensures.arena.laid c.first-x.ensures.arena.timed c.requires.in_range c.requires.live x c.loop-x.size c.loop-x.invariant c.loop-x-test.true z c.next-x.ensures some)
      | else-not-is_weightless w ↦
          subst P (sym w.size-is)
          (sizing_past c.args.t l c.first-x.ensures.arena.laid c.first-x.ensures.arena.timed c.requires.in_range c.requires.live x c.loop-x.size c.loop-x.invariant c.loop-x-test.true z c.next-x.ensures (c.is_weightless.ensures.0 w.if-not-is_weightless.false))
    ]

pub returns : goal.returns
returns c = sizing_ends c.args.t c.args.arena.now c.first-x.ensures.arena.laid c.first-x.ensures.arena.timed c.requires.in_range c.requires.live c.loop-x.x c.loop-x.size c.loop-x.invariant c.loop-x-test.false
