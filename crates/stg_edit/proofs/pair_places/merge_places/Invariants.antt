use Rattle.std.proofs.Common.{◌-◌, length}
use Rattle.stg_edit.proofs.RowMerge.{IsOnTheWay}
use Rattle.stg_edit.proofs.pair_places.merge_places.Given as goal

abbrev pub invariant-loop-u : goal.invariant-loop-u
invariant-loop-u l = IsOnTheWay l.initial.arena l.arena l.p l.q l.t (length l.initial.arena.places - 1) l.u l.x l.y

abbrev pub decreases-loop-u : goal.decreases-loop-u
decreases-loop-u l = 4294967295 - l.u
