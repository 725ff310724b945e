use Rattle.std.proofs.Common.{◌≡◌}
use Rattle.stg_contract.specs.inner.Weights.{weight_in}
use Rattle.stg_contract.proofs.walks.weight_of.Given as goal

abbrev pub invariant-loop-other : goal.invariant-loop-other
invariant-loop-other l = weight_in l.fn.number l.other-iterator ≡ weight_in l.fn.number l.fn.walk
