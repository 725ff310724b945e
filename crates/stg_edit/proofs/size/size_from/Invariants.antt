use Rattle.stg_edit.proofs.SizeLoops.{IsSizedFrom}
use Rattle.stg_edit.proofs.size.size_from.Given as goal

abbrev pub invariant-loop-p : goal.invariant-loop-p
invariant-loop-p l = IsSizedFrom l.arena l.first l.p l.size
