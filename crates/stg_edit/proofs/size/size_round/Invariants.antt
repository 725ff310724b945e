use Rattle.stg_edit.proofs.PairPlaces.{to_go}
use Rattle.stg_edit.proofs.SizeLoops.{IsSizedRound}
use Rattle.stg_edit.proofs.size.size_round.Given as goal

abbrev pub invariant-loop-x : goal.invariant-loop-x
invariant-loop-x l = IsSizedRound l.t l.arena l.x l.size

abbrev pub decreases-loop-x : goal.decreases-loop-x
decreases-loop-x l = to_go l.t l.x
