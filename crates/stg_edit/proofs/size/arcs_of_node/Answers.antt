use Rattle.std.proofs.Common.{◌+◌, ℕ, subst, sym, refl, arith}
use Rattle.stg_arena.specs.ArenaView.{head_of}
use Rattle.stg_edit.proofs.SizeLoops.{IsCountingArcs, counting_starts, counting_on, counting_ends, counting_few}
use Rattle.stg_edit.proofs.size.arcs_of_node.Goals as goal

pub loop-far-init : goal.loop-far-init
loop-far-init c =
    counting_starts c.args.arena.now c.args.end c.args.node (head_of c.args.arena.now c.args.end c.args.node) c.first-at.result c.far-far.result c.first-at.ensures.arena.laid c.first-at.ensures.arena.timed c.requires.in_range c.requires.live refl c.first-at.ensures.first c.far-far.ensures

pub overflow_add-arcs : goal.overflow_add-arcs
overflow_add-arcs c = omega (arith, counting_few c.args.arena.now c.args.end c.args.node c.loop-far.at c.loop-far.far c.loop-far.arcs c.first-at.ensures.arena.laid c.loop-far.invariant, c.cell_arcs-arcs.ensures)

pub loop-far-preserved : goal.loop-far-preserved
loop-far-preserved c =
    let l = c.args.arena.now in
    let b = c.args.end in
    let P : ℕ → Type 0 = λ n. IsCountingArcs l b c.args.node c.next-at.result c.far-far-in-loop-far.result (c.loop-far.arcs + n) in
    subst P (sym c.cell_arcs-arcs.ensures)
    (counting_on l b c.args.node c.loop-far.at c.loop-far.far c.loop-far.arcs c.next-at.result c.far-far-in-loop-far.result c.first-at.ensures.arena.laid c.requires.in_range c.loop-far.invariant c.loop-far-test.true c.next-at.ensures c.far-far-in-loop-far.ensures)

pub returns : goal.returns
returns c = counting_ends c.args.arena.now c.args.end c.args.node c.loop-far.at c.loop-far.far c.loop-far.arcs c.loop-far.invariant c.loop-far-test.false
