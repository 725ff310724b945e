-- The verdict on a dummy: the first reason against its
-- contraction, or the type by which it is secure.
use Rattle.std.specs.Prelude.{◌≡◌, ◌<◌, ◌≤◌, ◌+◌, ◌-◌, ◌*◌, ◌^◌, ◌⊎◌, ℕ, length, min}
use Rattle.stg_net.specs.declared.limits.TheConstants.Limits.{PART}
use Rattle.stg_net.specs.Graph.{Graph, tokens_at, takes, gives}
use Rattle.stg_net.specs.Contraction.{contracted}
use Rattle.stg_laws.specs.Conflict.{HasNoAutoConflict, IsClash}
use Rattle.stg_laws.specs.Secure.{IsPureOrdinary, IsType1, IsSecure}
use Rattle.stg_edit.specs.Counted.{live_places, count_arcs}
use Rattle.stg_contract.specs.declared.verdict.Verdict.{Verdict}
use Rattle.stg_contract.specs.declared.verdict.Verdict.TheVariants.{Type1, Type2, Loop, Weight, Insecure, Clash, Places, Large}

-- t isn't pure: it takes from a place to which it gives
pub record HasLoop (g : Graph) (t : ℕ) : Type 0 where
  pub place : ℕ
  pub taken : 0 < takes g t place
  pub given : 0 < gives g t place

-- t isn't ordinary: an arc of it has a weight above 1
pub record HasWeight (g : Graph) (t : ℕ) : Type 0 where
  pub place : ℕ
  pub above : (1 < takes g t place) ⊎ (1 < gives g t place)

-- t and u, the lesser first, are two known transitions of one label that take from one place
pub record AreClashing (g : Graph) (t u : ℕ) : Type 0 where
  pub place : ℕ
  pub clash : IsClash g t u place

-- so are t and u, and no two before them, by the first and then by the second
pub record AreLeastClashing (g : Graph) (t u : ℕ) : Type 0 where
  pub clashing : AreClashing g t u
  pub least : (v w : ℕ) → AreClashing g v w → (t < v) ⊎ ((t ≡ v) × (u ≤ w))

-- weights, tokens and the number of arcs are within the limits of a component
pub record IsWithinLimits (g : Graph) : Type 0 where
  pub taken : (t p : ℕ) → takes g t p ≤ PART.weight
  pub given : (t p : ℕ) → gives g t p ≤ PART.weight
  pub tokens : (p : ℕ) → tokens_at g p ≤ PART.weight
  pub arcs : count_arcs g ≤ PART.arcs

-- how many places are live
abbrev pub count_places : Graph → ℕ
count_places g = length (live_places g)

-- how many places may be live after a contraction
abbrev pub most_places : Graph → ℕ
most_places g = 2 * g.first_places + 64

-- the contraction of t adds no run: t is pure and ordinary, and of one of the two types
pub record HasSecureContraction (g : Graph) (t : ℕ) : Type 0 where
  pub pure_ordinary : IsPureOrdinary g t
  pub secure : IsSecure g t

-- besides, the contracted graph has no structural auto-conflict, few
-- places, and no number past the limits
pub record IsContractible (g : Graph) (t : ℕ) : Type 0 where
  pub contraction : HasSecureContraction g t
  pub no_conflict : HasNoAutoConflict (contracted g t)
  pub few_places : count_places (contracted g t) ≤ most_places g
  pub within : IsWithinLimits (contracted g t)

-- the contraction is secure and leaves no structural auto-conflict, but n places would be live,
-- which are too many; n stands still at the last number of 32 bits
pub record HasTooManyPlaces (g : Graph) (t n : ℕ) : Type 0 where
  pub contraction : HasSecureContraction g t
  pub no_conflict : HasNoAutoConflict (contracted g t)
  pub many_places : most_places g < count_places (contracted g t)
  pub number : n ≡ min (count_places (contracted g t)) (2 ^ 32 - 1)

-- nor are there too many places, but a number would be past the limits
pub record IsTooLarge (g : Graph) (t : ℕ) : Type 0 where
  pub contraction : HasSecureContraction g t
  pub no_conflict : HasNoAutoConflict (contracted g t)
  pub few_places : count_places (contracted g t) ≤ most_places g
  pub not_within : ¬ IsWithinLimits (contracted g t)

-- the verdict on t
abbrev pub IsVerdict : Graph → ℕ → Verdict → Type 0
IsVerdict g t Loop = HasLoop g t
IsVerdict g t Weight = (¬ HasLoop g t) × HasWeight g t
IsVerdict g t Insecure = IsPureOrdinary g t × (¬ IsSecure g t)
IsVerdict g t (Clash u v) = HasSecureContraction g t × AreLeastClashing (contracted g t) u v
IsVerdict g t (Places n) = HasTooManyPlaces g t n
IsVerdict g t Large = IsTooLarge g t
IsVerdict g t Type1 = IsContractible g t × IsType1 g t
IsVerdict g t Type2 = IsContractible g t × (¬ IsType1 g t)
