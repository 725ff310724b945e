-- What a watch of redundant dummies shows: for each number of a transition, whether it is watched.
use Rattle.std.specs.Prelude.{◌≡◌, ℕ, Bool, true, false, List, length, slice_index_or}
use Rattle.stg_net.specs.Graph.{Graph}
use Rattle.stg_laws.specs.RedundantDummies.{IsSameDummy, IsRedundantDummy}
use Rattle.stg_contract.specs.Neighbours.{HasArc}

-- t is watched
abbrev pub IsFlagged : List Bool → ℕ → Type 0
IsFlagged flags t = slice_index_or flags t false ≡ true

-- each redundant dummy is watched
abbrev pub FlagsRedundant : Graph → List Bool → Type 0
FlagsRedundant g flags = (t : ℕ) → IsRedundantDummy g t → IsFlagged flags t

-- the new watch has no other numbers than the old one, and lacks none of its redundant dummies
pub record DropsUseful (g : Graph) (old new : List Bool) : Type 0 where
  pub as_long : length new ≡ length old
  pub only : (t : ℕ) → IsFlagged new t → IsFlagged old t
  pub redundant : (t : ℕ) → IsFlagged old t → IsRedundantDummy g t → IsFlagged new t

-- the new watch has the numbers of the old one, and may have more
pub record FlagsMore (old new : List Bool) : Type 0 where
  pub as_long : length new ≡ length old
  pub kept : (t : ℕ) → IsFlagged old t → IsFlagged new t

-- v is watched, where it is redundant, and so is each dummy that is the same as v, where v has an arc
abbrev pub IsFlaggedWithSame : Graph → List Bool → ℕ → Type 0
IsFlaggedWithSame g flags v = (IsRedundantDummy g v → IsFlagged flags v)
    × ((u p : ℕ) → HasArc g v p → IsSameDummy g u v → IsFlagged flags u)
