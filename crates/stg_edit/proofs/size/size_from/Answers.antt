use Rattle.std.proofs.Common.{◌+◌, subst, sym, ap, ◌∙◌, arith}
use Rattle.stg_edit.specs.declared.size.Size.{Size}
use Rattle.stg_edit.specs.inner.Sizes.{plus}
use Rattle.stg_edit.proofs.SizeLoops.{IsSizedFrom, arcs_few, sized_on}
use Rattle.stg_edit.proofs.size.size_from.Goals as goal

pub plus-size-requires-clause-arcs : goal.plus-size-requires-clause-arcs
plus-size-requires-clause-arcs c = omega (arith, c.loop-p.invariant.few, c.ranges.first.fits, c.loop-p-test.true, ap (λ (s : Size). s.arcs) c.size_at.ensures, arcs_few c.args.arena.now c.loop-p.p c.requires.bounded)

pub loop-p-preserved : goal.loop-p-preserved
loop-p-preserved c =
    let P : Size → Type 0 = IsSizedFrom c.args.arena.now c.args.first (c.loop-p.p + 1) in
    subst P (sym (c.plus-size.ensures ∙ ap (plus c.loop-p.size) c.size_at.ensures)) (sized_on c.args.arena.now c.args.first c.loop-p.p c.loop-p.size c.requires.bounded (omega arith) c.loop-p.invariant)
