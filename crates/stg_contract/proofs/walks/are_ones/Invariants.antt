use Rattle.std.proofs.Common.{◌≡◌, ◌==◌, ℕ}
use Rattle.std.specs.List.{list_all}
use Rattle.stg_contract.proofs.walks.are_ones.Given as goal

abbrev pub invariant-loop-weight : goal.invariant-loop-weight
invariant-loop-weight l = list_all (λ (x : ℕ × ℕ). x.1 == 1) l.weight-iterator ≡ list_all (λ (x : ℕ × ℕ). x.1 == 1) l.fn.walk
