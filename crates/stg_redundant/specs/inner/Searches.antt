-- What a search over numbers finds.
use Rattle.std.specs.Prelude.{◌≡◌, ◌<◌, ℕ, Bool, true, false, Option, Some, None}
use Rattle.stg_net.specs.Graph.{Graph}
use Rattle.stg_laws.specs.RedundantPlaces.{IsRedundantPlace}
use Rattle.stg_laws.specs.RedundantDummies.{IsRedundantDummy}
use Rattle.stg_redundant.specs.declared.found.PlaceRule.{PlaceRule}
use Rattle.stg_redundant.specs.declared.found.DummyRule.{DummyRule}
use Rattle.stg_redundant.specs.Rules.{IsPlaceRule, IsDummyRule}

-- the first of the numbers below n that passes the test
abbrev pub IsFirst : (ℕ → Bool) → ℕ → Option ℕ → Type 0
IsFirst test n None = (u : ℕ) → u < n → test u ≡ false
IsFirst test n (Some u) = (u < n) × (test u ≡ true) × ((v : ℕ) → v < u → test v ≡ false)

-- the first rule for the dummy t, where there is one
abbrev pub IsDummyRuleOf : Graph → ℕ → Option DummyRule → Type 0
IsDummyRuleOf g t None = ¬ IsRedundantDummy g t
IsDummyRuleOf g t (Some rule) = IsDummyRule g t rule

-- the first rule for the place p, where there is one
abbrev pub IsPlaceRuleOf : Graph → ℕ → Option PlaceRule → Type 0
IsPlaceRuleOf g p None = ¬ IsRedundantPlace g p
IsPlaceRuleOf g p (Some rule) = IsPlaceRule g p rule
