use Rattle.std.proofs.Common.{◌-◌, length, cond, eqb}
use Rattle.stg_arena.proofs.RingRemoval.{IsRelinking}
use Rattle.stg_arena.proofs.links.relink_all.Given as goal

abbrev pub invariant-loop-x : goal.invariant-loop-x
invariant-loop-x l = IsRelinking l.own l.initial.other l.other l.head l.x

abbrev pub decreases-loop-x : goal.decreases-loop-x
decreases-loop-x l = cond (eqb l.x l.head) 0 (length l.own - l.x)
