use Rattle.std.proofs.Common.{◌≡◌}
use Rattle.std.specs.List.{list_any}
use Rattle.stg_contract.specs.inner.Sums.{is_past}
use Rattle.stg_contract.proofs.walks.has_past.Given as goal

abbrev pub invariant-loop-weight : goal.invariant-loop-weight
invariant-loop-weight l = list_any is_past l.weight-iterator ≡ list_any is_past l.fn.walk
