-- The dummies that can be contracted, and the cheapest of them.
use Rattle.std.specs.Prelude.{◌≡◌, ◌<◌, ◌≤◌, ◌⊎◌, ℕ}
use Rattle.stg_net.specs.Graph.{Graph, IsDummy}
use Rattle.stg_edit.specs.Replacing.{new_places}
use Rattle.stg_contract.specs.Verdicts.{IsContractible}

-- t is a contractible dummy
pub record IsCandidate (g : Graph) (t : ℕ) : Type 0 where
  pub dummy : IsDummy g t
  pub contractible : IsContractible g t

-- t is the candidate whose contraction makes the fewest places, the least number among equals
pub record IsCheapest (g : Graph) (t : ℕ) : Type 0 where
  pub candidate : IsCandidate g t
  pub cheapest : (u : ℕ) → IsCandidate g u → (new_places g t < new_places g u)
      ⊎ ((new_places g t ≡ new_places g u) × (t ≤ u))
