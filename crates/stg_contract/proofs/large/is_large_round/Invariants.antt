use Rattle.std.proofs.Common.{◌≡◌, ℕ}
use Rattle.std.specs.List.{list_any}
use Rattle.stg_edit.specs.Walks.{given_places}
use Rattle.stg_contract.specs.inner.Weights.{ArePlaces}
use Rattle.stg_contract.specs.inner.Sums as sums
use Rattle.stg_contract.proofs.large.is_large_round.Given as goal

abbrev pub invariant-loop-p : goal.invariant-loop-p
invariant-loop-p l = record {
  live : ArePlaces l.editor.now l.p-iterator;
  left : list_any (λ (x : ℕ × ℕ). sums.is_large_after l.editor.now l.t x.0 (given_places l.editor.now l.t)) l.p-iterator ≡ sums.is_large_round l.editor.now l.t;
}
