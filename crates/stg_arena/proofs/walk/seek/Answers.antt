use Rattle.std.proofs.Common.{◌≡◌, arith}
use Rattle.stg_arena.specs.ArenaView.{end_of, cell_at}
use Rattle.stg_arena.specs.RingWalk.{cell_weight}
use Rattle.stg_arena.proofs.RingWalk.{pass_on}
use Rattle.stg_arena.proofs.walk.seek.Goals as goal

pub loop-far-preserved : goal.loop-far-preserved
loop-far-preserved c =
    let no : cell_weight c.args.way (cell_at c.args.arena.now.cells c.loop-far.at) ≡ 0 = omega (arith, c.weight.ensures) in
    pass_on c.args.arena.now c.args.end (end_of c.args.end (cell_at c.args.arena.now.cells c.args.from)) c.args.way c.args.from c.loop-far.at c.loop-far.far c.next-at.result c.far-far-in-loop-far.result
    c.loop-far.invariant c.loop-far-test.true no c.requires.key c.next-at.ensures c.far-far-in-loop-far.ensures
