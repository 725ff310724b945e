use Rattle.std.proofs.Common.{◌-◌, length, cond, eqb}
use Rattle.stg_edit.proofs.SizeLoops.{IsCountingArcs}
use Rattle.stg_edit.proofs.size.arcs_of_node.Given as goal

abbrev pub invariant-loop-far : goal.invariant-loop-far
invariant-loop-far l = IsCountingArcs l.arena l.end l.node l.at l.far l.arcs

abbrev pub decreases-loop-far : goal.decreases-loop-far
decreases-loop-far l = cond (eqb l.far 4294967295) 0 (length l.arena.cells - l.at)
