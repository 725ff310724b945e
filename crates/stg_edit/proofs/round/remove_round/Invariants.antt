use Rattle.stg_edit.proofs.PairPlaces.{to_go}
use Rattle.stg_edit.proofs.PresetRemoval.{IsRemovingPlaces}
use Rattle.stg_edit.proofs.round.remove_round.Given as goal

abbrev pub invariant-loop-x : goal.invariant-loop-x
invariant-loop-x l = IsRemovingPlaces l.t l.initial.arena l.arena l.x

abbrev pub decreases-loop-x : goal.decreases-loop-x
decreases-loop-x l = to_go l.t l.x
