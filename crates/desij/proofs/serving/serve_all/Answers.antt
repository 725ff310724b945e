use Rattle.std.proofs.Common.{arith}
use Rattle.desij.proofs.TurnLemmas.{more-served, none-served, some-served}
use Rattle.desij.proofs.serving.serve_all.Goals as goal

pub loop-turn-init : goal.loop-turn-init
loop-turn-init g c = record {
  served = none-served (g.K.Keeper.seen c.args.desk.now.0) (g.D.Doors.seen c.args.doors.now);
  listening = c.requires;
  later = omega arith;
}

pub returns-in-Err-clause-stopped : goal.returns-in-Err-clause-stopped
returns-in-Err-clause-stopped g c = λ failed.
    some-served c.loop-turn._turn c.args.count _ _ _ _ _ c.loop-turn-test.true c.loop-turn.invariant.served (c.in-Err.ensures.stopped failed)

pub loop-turn-preserved : goal.loop-turn-preserved
loop-turn-preserved g c = record {
  served = more-served c.loop-turn._turn _ _ _ _ _ _ c.loop-turn.invariant.served c.in-Ok.ensures.ok;
  listening = c.serve_next.ensures.listening;
  later = omega (arith, c.loop-turn.invariant.later, c.serve_next.ensures.later);
}
