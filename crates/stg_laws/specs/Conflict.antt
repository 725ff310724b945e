-- Structural auto-conflicts, and the least of them.
use Rattle.std.specs.Prelude.{◌≡◌, ℕ, ◌<◌, ◌⊎◌}
use Rattle.stg_net.specs.Graph.{Graph, takes}
use Rattle.stg_laws.specs.Deterministic.{AreRivals}

-- two different known transitions of one label take from the place p
pub record IsAutoConflict (g : Graph) (t u p : ℕ) : Type 0 where
  pub rivals : AreRivals g t u
  pub t_takes : 0 < takes g t p
  pub u_takes : 0 < takes g u p

-- no two different known transitions of one label take from one place
abbrev pub HasNoAutoConflict : Graph → Type 0
HasNoAutoConflict g = (t u p : ℕ) → ¬ IsAutoConflict g t u p

-- t and u, the lesser first, are two known transitions of one label that take from the place p
pub record IsClash (g : Graph) (t u p : ℕ) : Type 0 where
  pub conflict : IsAutoConflict g t u p
  pub ascends : t < u

-- so are they, and no clash is lesser: by the first transition,
-- then by the second, then by the place
pub record IsLeastClash (g : Graph) (t u p : ℕ) : Type 0 where
  pub clash : IsClash g t u p
  pub least : (v w q : ℕ) → IsClash g v w q
      → ¬ ((v < t) ⊎ ((v ≡ t) × ((w < u) ⊎ ((w ≡ u) × (q < p)))))
