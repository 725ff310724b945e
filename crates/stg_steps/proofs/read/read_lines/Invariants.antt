use Rattle.std.proofs.Common.{length}
use Rattle.stg_steps.proofs.ReadSteps.{Reached}
use Rattle.stg_steps.proofs.read.read_lines.Given as goal

abbrev pub invariant-loop-rest : goal.invariant-loop-rest
invariant-loop-rest l = Reached l.net l.text l.number l.log l.rest

abbrev pub decreases-loop-rest : goal.decreases-loop-rest
decreases-loop-rest l = length l.rest
