use Rattle.std.proofs.Common.{length}
use Rattle.stg_derive.proofs.Undone.{IsUndoing}
use Rattle.stg_derive.proofs.undoing.give_back.Given as goal

abbrev pub invariant-loop-attempt : goal.invariant-loop-attempt
invariant-loop-attempt l = IsUndoing l.net l.fn.attempt l.attempt l.signal l.kept

abbrev pub decreases-loop-attempt : goal.decreases-loop-attempt
decreases-loop-attempt l = length l.attempt.steps.items
