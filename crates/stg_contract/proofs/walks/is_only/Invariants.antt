use Rattle.std.proofs.Common.{◌≡◌, ◌==◌, ℕ}
use Rattle.std.specs.List.{list_all}
use Rattle.stg_contract.proofs.walks.is_only.Given as goal

abbrev pub invariant-loop-other : goal.invariant-loop-other
invariant-loop-other l = list_all (λ (x : ℕ × ℕ). x.0 == l.fn.number) l.other-iterator ≡ list_all (λ (x : ℕ × ℕ). x.0 == l.fn.number) l.fn.walk
