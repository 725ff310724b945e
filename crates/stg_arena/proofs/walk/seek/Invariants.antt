use Rattle.std.proofs.Common.{◌-◌, length, cond, eqb}
use Rattle.stg_arena.specs.ArenaView.{end_of, cell_at}
use Rattle.stg_arena.specs.RingWalk.{IsPassing}
use Rattle.stg_arena.proofs.walk.seek.Given as goal

abbrev pub invariant-loop-far : goal.invariant-loop-far
invariant-loop-far l = IsPassing l.arena l.end (end_of l.end (cell_at l.arena.cells l.from)) l.way l.from l.at l.far

abbrev pub decreases-loop-far : goal.decreases-loop-far
decreases-loop-far l = cond (eqb l.far 4294967295) 0 (length l.arena.cells - l.at)
