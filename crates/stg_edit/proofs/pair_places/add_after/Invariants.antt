use Rattle.stg_edit.proofs.PairPlaces.{to_go, IsPairingWith}
use Rattle.stg_edit.proofs.pair_places.add_after.Given as goal

abbrev pub invariant-loop-y : goal.invariant-loop-y
invariant-loop-y l = IsPairingWith l.t l.p l.initial.arena l.arena l.y

abbrev pub decreases-loop-y : goal.decreases-loop-y
decreases-loop-y l = to_go l.t l.y
