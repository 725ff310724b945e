use Rattle.std.proofs.Common.{◌≡◌, ◌≤◌, true}
use Rattle.desij.specs.inner.Turns.{ServesTurns}
use Rattle.desij.proofs.serving.serve_all.Given as goal

abbrev pub invariant-loop-turn : goal.invariant-loop-turn
invariant-loop-turn g l = record {
  served : ServesTurns l._turn (g.K.Keeper.seen l.initial.desk.0) (g.D.Doors.seen l.initial.doors) (g.K.Keeper.seen l.desk.0) (g.D.Doors.seen l.doors);
  listening : (g.D.Doors.seen l.doors).listening ≡ true;
  later : (g.D.Doors.seen l.initial.doors).faults ≤ (g.D.Doors.seen l.doors).faults;
}
