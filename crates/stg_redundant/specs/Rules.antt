-- The first rule by which a place or a dummy is redundant, and the greatest one that is.
use Rattle.std.specs.Prelude.{◌≤◌, ℕ, Option, None, Some}
use Rattle.stg_net.specs.Graph.{Graph}
use Rattle.stg_laws.specs.RedundantPlaces.{IsSamePlace, IsLoopPlace, IsShortcut, IsRedundantPlace}
use Rattle.stg_laws.specs.RedundantDummies.{IsSameDummy, IsLoopDummy, IsRedundantDummy}
use Rattle.stg_redundant.specs.declared.found.PlaceRule.{PlaceRule}
use Rattle.stg_redundant.specs.declared.found.PlaceRule.TheVariants as place_rule
use Rattle.stg_redundant.specs.declared.found.PlaceFound.{PlaceFound}
use Rattle.stg_redundant.specs.declared.found.DummyRule.{DummyRule}
use Rattle.stg_redundant.specs.declared.found.DummyRule.TheVariants as dummy_rule
use Rattle.stg_redundant.specs.declared.found.DummyFound.{DummyFound}

-- the rule is the first one by which p is redundant
abbrev pub IsPlaceRule : Graph → ℕ → PlaceRule → Type 0
IsPlaceRule g p (place_rule.Same q) = IsSamePlace g p q × ((r : ℕ) → IsSamePlace g p r → q ≤ r)
IsPlaceRule g p place_rule.Loop = ((q : ℕ) → ¬ IsSamePlace g p q) × IsLoopPlace g p
IsPlaceRule g p place_rule.Shortcut = ((q : ℕ) → ¬ IsSamePlace g p q) × (¬ IsLoopPlace g p)
    × IsShortcut g p

-- it is the redundant place of greatest number, with its first rule; none where no place is
-- redundant
abbrev pub IsPlaceFound : Graph → Option PlaceFound → Type 0
IsPlaceFound g None = (p : ℕ) → ¬ IsRedundantPlace g p
IsPlaceFound g (Some f) = IsPlaceRule g f.place f.rule
    × ((p : ℕ) → IsRedundantPlace g p → p ≤ f.place)

-- the rule is the first one by which t is redundant
abbrev pub IsDummyRule : Graph → ℕ → DummyRule → Type 0
IsDummyRule g t dummy_rule.Loop = IsLoopDummy g t
IsDummyRule g t (dummy_rule.Same u) = (¬ IsLoopDummy g t) × IsSameDummy g t u
    × ((v : ℕ) → IsSameDummy g t v → u ≤ v)

-- it is the redundant dummy of greatest number, with its first rule; none where no dummy is
-- redundant
abbrev pub IsDummyFound : Graph → Option DummyFound → Type 0
IsDummyFound g None = (t : ℕ) → ¬ IsRedundantDummy g t
IsDummyFound g (Some f) = IsDummyRule g f.trans f.rule
    × ((t : ℕ) → IsRedundantDummy g t → t ≤ f.trans)
