use Rattle.std.proofs.Common.{◌≡◌, ◌<◌, ◌+◌, min, refl, arith}
use Rattle.stg_arena.specs.declared.end.Way.TheVariants.{Take, Give}
use Rattle.stg_arena.specs.Incidence.{weight}
use Rattle.stg_edit.specs.inner.RowMerge.{far}
use Rattle.stg_edit.proofs.RowMerge.{merge_starts, at_work, shares_here, allowed, merge_turn, merge_ends}
use Rattle.stg_edit.proofs.pair_places.merge_places.Goals as goal

pub loop-u-init : goal.loop-u-init
loop-u-init c =
    let l = c.args.arena.now in
    merge_starts l c.args.p c.args.q c.args.t c.least-u.result c.first-x.result c.first-y.result c.requires.arena.laid c.requires.arena.timed c.requires c.first-x.ensures.first c.first-y.ensures.first c.least-u.ensures

pub shares-take-requires-clause-bounded : goal.shares-take-requires-clause-bounded
shares-take-requires-clause-bounded c = (shares_here c.args.arena.now c.loop-u.arena c.args.p c.args.q c.args.t c.loop-u.u c.loop-u.x c.loop-u.y Take c.loop-u.invariant.arena.laid c.loop-u.invariant.arena.timed c.requires c.loop-u.invariant c.loop-u-test.true).1

pub shares-give-requires-clause-bounded : goal.shares-give-requires-clause-bounded
shares-give-requires-clause-bounded c = (shares_here c.args.arena.now c.loop-u.arena c.args.p c.args.q c.args.t c.loop-u.u c.loop-u.x c.loop-u.y Give c.loop-u.invariant.arena.laid c.loop-u.invariant.arena.timed c.requires c.loop-u.invariant c.loop-u-test.true).1

pub put-requires : goal.put-requires
put-requires c =
    let l = c.loop-u.arena in
    let u = c.loop-u.u in
    let w = c.shares-take.result + c.shares-give.result in
    let is : w ≡ weight l.cells Take c.args.p u + weight l.cells Take c.args.q u + (weight l.cells Give c.args.p u + weight l.cells Give c.args.q u) =
    omega (arith, c.shares-take.ensures, c.shares-give.ensures, (shares_here c.args.arena.now c.loop-u.arena c.args.p c.args.q c.args.t c.loop-u.u c.loop-u.x c.loop-u.y Take c.loop-u.invariant.arena.laid c.loop-u.invariant.arena.timed c.requires c.loop-u.invariant c.loop-u-test.true).0, (shares_here c.args.arena.now c.loop-u.arena c.args.p c.args.q c.args.t c.loop-u.u c.loop-u.x c.loop-u.y Give c.loop-u.invariant.arena.laid c.loop-u.invariant.arena.timed c.requires c.loop-u.invariant c.loop-u-test.true).0) in
    allowed c.args.arena.now l c.args.p c.args.q c.args.t u c.loop-u.x c.loop-u.y w c.requires.arena.timed c.loop-u.invariant.arena.laid c.loop-u.invariant.arena.timed c.requires c.loop-u.invariant c.loop-u-test.true is

pub least-u-requires-in-loop-u-clause-first : goal.least-u-requires-in-loop-u-clause-first
least-u-requires-in-loop-u-clause-first c = (merge_turn c.args.arena.now c.loop-u.arena c.put.new.arena c.args.p c.args.q c.args.t c.loop-u.u c.loop-u.x c.loop-u.y c.step_past-past_x.result c.step_past-past_y.result (min (far c.put.new.arena c.step_past-past_x.result) (far c.put.new.arena c.step_past-past_y.result)) c.shares-take.result c.shares-give.result c.requires.arena.timed c.loop-u.invariant.arena.laid c.loop-u.invariant.arena.timed c.requires c.loop-u.invariant c.loop-u-test.true c.step_past-past_x.ensures c.step_past-past_y.ensures c.shares-take.ensures c.shares-give.ensures c.put.ensures.put c.put.ensures.kept c.put.ensures.appended c.put.ensures.arena c.put.ensures.few refl).2

pub least-u-requires-in-loop-u-clause-second : goal.least-u-requires-in-loop-u-clause-second
least-u-requires-in-loop-u-clause-second c = (merge_turn c.args.arena.now c.loop-u.arena c.put.new.arena c.args.p c.args.q c.args.t c.loop-u.u c.loop-u.x c.loop-u.y c.step_past-past_x.result c.step_past-past_y.result (min (far c.put.new.arena c.step_past-past_x.result) (far c.put.new.arena c.step_past-past_y.result)) c.shares-take.result c.shares-give.result c.requires.arena.timed c.loop-u.invariant.arena.laid c.loop-u.invariant.arena.timed c.requires c.loop-u.invariant c.loop-u-test.true c.step_past-past_x.ensures c.step_past-past_y.ensures c.shares-take.ensures c.shares-give.ensures c.put.ensures.put c.put.ensures.kept c.put.ensures.appended c.put.ensures.arena c.put.ensures.few refl).3

pub loop-u-smaller : goal.loop-u-smaller
loop-u-smaller c =
    let more : c.loop-u.u < c.least-u-in-loop-u.result = (merge_turn c.args.arena.now c.loop-u.arena c.put.new.arena c.args.p c.args.q c.args.t c.loop-u.u c.loop-u.x c.loop-u.y c.step_past-past_x.result c.step_past-past_y.result c.least-u-in-loop-u.result c.shares-take.result c.shares-give.result c.requires.arena.timed c.loop-u.invariant.arena.laid c.loop-u.invariant.arena.timed c.requires c.loop-u.invariant c.loop-u-test.true c.step_past-past_x.ensures c.step_past-past_y.ensures c.shares-take.ensures c.shares-give.ensures c.put.ensures.put c.put.ensures.kept c.put.ensures.appended c.put.ensures.arena c.put.ensures.few c.least-u-in-loop-u.ensures).1 in
    let small : c.loop-u.u < 4294967295 = (at_work c.args.arena.now c.loop-u.arena c.args.p c.args.q c.args.t c.loop-u.u c.loop-u.x c.loop-u.y c.loop-u.invariant.arena.laid c.loop-u.invariant.arena.timed c.requires c.loop-u.invariant c.loop-u-test.true).small in
    omega arith

pub loop-u-preserved : goal.loop-u-preserved
loop-u-preserved c = (merge_turn c.args.arena.now c.loop-u.arena c.put.new.arena c.args.p c.args.q c.args.t c.loop-u.u c.loop-u.x c.loop-u.y c.step_past-past_x.result c.step_past-past_y.result c.least-u-in-loop-u.result c.shares-take.result c.shares-give.result c.requires.arena.timed c.loop-u.invariant.arena.laid c.loop-u.invariant.arena.timed c.requires c.loop-u.invariant c.loop-u-test.true c.step_past-past_x.ensures c.step_past-past_y.ensures c.shares-take.ensures c.shares-give.ensures c.put.ensures.put c.put.ensures.kept c.put.ensures.appended c.put.ensures.arena c.put.ensures.few c.least-u-in-loop-u.ensures).0

pub returns : goal.returns
returns c = merge_ends c.args.arena.now c.loop-u.arena c.args.p c.args.q c.args.t c.loop-u.u c.loop-u.x c.loop-u.y c.requires.arena.laid c.requires c.loop-u.invariant c.loop-u-test.false

pub first-x-requires-clause-in_range : goal.first-x-requires-clause-in_range
first-x-requires-clause-in_range c = omega (arith, c.requires.first)

pub first-y-requires-clause-in_range : goal.first-y-requires-clause-in_range
first-y-requires-clause-in_range c = omega (arith, c.requires.second)
