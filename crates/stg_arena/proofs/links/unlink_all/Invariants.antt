use Rattle.std.proofs.Common.{◌-◌, length, cond, eqb}
use Rattle.stg_arena.proofs.RingRemoval.{IsUnlinking}
use Rattle.stg_arena.proofs.links.unlink_all.Given as goal

abbrev pub invariant-loop-x : goal.invariant-loop-x
invariant-loop-x l = IsUnlinking l.own l.initial.other l.other l.head l.x

abbrev pub decreases-loop-x : goal.decreases-loop-x
decreases-loop-x l = cond (eqb l.x l.head) 0 (length l.own - l.x)
