-- What a watch of dummies shows: for each number of a transition nothing, where it isn't watched,
-- or a number of places that its contraction makes at least.
use Rattle.std.specs.Prelude.{◌≡◌, ◌≤◌, ◌⊎◌, ℕ, List, Option, Some, None, IsSome, length, slice_index_or}
use Rattle.stg_net.specs.Graph.{Graph, IsDummy}
use Rattle.stg_edit.specs.Replacing.{new_places}
use Rattle.stg_contract.specs.Neighbours.{MayContract}
use Rattle.stg_contract.specs.Candidates.{IsCandidate}

-- the number of places that is kept for t, where t is watched
abbrev pub least_places : List (Option ℕ) → ℕ → Option ℕ
least_places watch t = slice_index_or watch t None

-- t is watched
abbrev pub IsWatchedDummy : List (Option ℕ) → ℕ → Type 0
IsWatchedDummy watch t = IsSome (least_places watch t)

-- each candidate is watched
abbrev pub WatchesCandidates : Graph → List (Option ℕ) → Type 0
WatchesCandidates g watch = (t : ℕ) → IsCandidate g t → IsWatchedDummy watch t

-- each dummy is watched that only numbers may keep from a contraction
abbrev pub WatchesHopeful : Graph → List (Option ℕ) → Type 0
WatchesHopeful g watch = (t : ℕ) → IsDummy g t → MayContract g t → IsWatchedDummy watch t

-- the contraction of each watched dummy makes at least as many places as are kept for it
abbrev pub AreLeastPlaces : Graph → List (Option ℕ) → Type 0
AreLeastPlaces g watch =
    (t n : ℕ) → least_places watch t ≡ Some n → IsDummy g t → n ≤ new_places g t

-- the new watch has no other dummies than the old one, and lacks none of its live ones that only
-- numbers may keep from a contraction
pub record DropsHopeless (g : Graph) (old new : List (Option ℕ)) : Type 0 where
  pub as_long : length new ≡ length old
  pub only : (t : ℕ) → IsWatchedDummy new t → IsWatchedDummy old t
  pub hopeful : (t : ℕ) → IsWatchedDummy old t → IsDummy g t → MayContract g t
      → IsWatchedDummy new t

-- the watch keeps for u, where u is a dummy, the number of places that its contraction makes
abbrev pub IsWeighed : Graph → List (Option ℕ) → ℕ → Type 0
IsWeighed g watch u = IsDummy g u → least_places watch u ≡ Some (new_places g u)

-- for each transition the new watch keeps what the old one keeps, or it is a dummy, and the new watch
-- keeps the number of places that its contraction makes
pub record WeighsDummies (g : Graph) (old new : List (Option ℕ)) : Type 0 where
  pub as_long : length new ≡ length old
  pub kept : (t : ℕ) → (least_places new t ≡ least_places old t)
      ⊎ (IsDummy g t × (least_places new t ≡ Some (new_places g t)))
