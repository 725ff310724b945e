use Rattle.stg_edit.proofs.PairPlaces.{to_go, IsPairingAll}
use Rattle.stg_edit.proofs.pair_places.add_pair_places.Given as goal

abbrev pub invariant-loop-x : goal.invariant-loop-x
invariant-loop-x l = IsPairingAll l.t l.initial.arena l.arena l.x

abbrev pub decreases-loop-x : goal.decreases-loop-x
decreases-loop-x l = to_go l.t l.x
