-- What holds of all texts.
use Rattle.std.specs.Prelude.{◌≡◌, ℕ, false, List, Ok}
use Rattle.stg_net.specs.declared.limits.Limits.{Limits}
use Rattle.stg_net.specs.Net.{IsWithin}
use Rattle.stg_net.specs.Spec.{SpecLists, IsSpec}
use Rattle.astg_read.specs.ReadLimits.{AreLimits}
use Rattle.astg_read.specs.Reading.{Meaning, reading}
use Rattle.astg_read.specs.Standing.{StandsFor}

-- the text stands for one specification, which is within the limits
pub record StandsForOne (limits : Limits) (text : List ℕ) : Type 0 where
  pub spec : SpecLists
  pub is_spec : IsSpec spec
  pub within : IsWithin limits spec.net
  pub stands : StandsFor limits text spec
  pub only : (other : SpecLists) → StandsFor limits text other → other ≡ spec

-- each text that breaks no rule stands for one specification
abbrev pub AcceptedStands : Type 0
AcceptedStands = (limits : Limits) (text : List ℕ) (meaning : Meaning) → AreLimits limits
    → reading false limits text ≡ Ok meaning → StandsForOne limits text
