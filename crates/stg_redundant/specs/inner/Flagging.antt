-- How the watch of redundant dummies is kept, and which transitions are near a place.
use Rattle.std.specs.Prelude.{◌<◌, ℕ, Bool, List, All, Contains, length}
use Rattle.stg_net.specs.Graph.{Graph}
use Rattle.stg_contract.specs.Neighbours.{HasArc}
use Rattle.stg_redundant.specs.FlaggedDummies.{IsFlagged}
use Rattle.stg_redundant.specs.inner.Chains.{IsAmong}

-- what is watched waits, and what waits is one of the numbers
pub record AreWaiting (flags : List Bool) (waiting : List ℕ) : Type 0 where
  pub listed : (t : ℕ) → IsFlagged flags t → Contains waiting t
  pub below : All (λ t. t < length flags) waiting

-- u has an arc with one of these places
pub record HasArcAmong (g : Graph) (places : List (ℕ × ℕ)) (u : ℕ) : Type 0 where
  pub place : ℕ
  pub among : IsAmong place places
  pub arc : HasArc g u place
