use Rattle.std.proofs.Common.{◌<◌, ◌-◌, length, arith}
use Rattle.stg_arena.specs.ArenaView.{removal_at}
use Rattle.stg_arena.proofs.Extends.{back_refl, back_step}
use Rattle.stg_arena.proofs.arena.Arena.revive_to.Goals as goal

pub loop-self-init : goal.loop-self-init
loop-self-init c = back_refl c.args.moment c.args.self.now c.requires.in_range c.requires.cells

pub revive_last-requires-clause-cells : goal.revive_last-requires-clause-cells
revive_last-requires-clause-cells c = c.loop-self.invariant.all.cells (length c.loop-self.self.removals - 1) (omega (arith, c.moment.ensures.value, c.loop-self-test.true)) (omega (arith, c.moment.ensures.value, c.loop-self-test.true))

pub loop-self-preserved : goal.loop-self-preserved
loop-self-preserved c =
    let now = c.loop-self.self in
    let low : c.args.moment < length now.removals = omega (arith, c.moment.ensures.value, c.loop-self-test.true) in
    let last = removal_at now (length now.removals - 1) in
    back_step c.args.moment last.end last.node c.args.self.now now c.revive_last.new.self c.loop-self.invariant low c.moment.ensures.arena.timed c.revive_last.ensures
