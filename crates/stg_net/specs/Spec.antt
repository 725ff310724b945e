-- What a specification is: a net and the names of its places.
use Rattle.std.specs.Prelude.{◌≡◌, ℕ, ◌<◌, ⊤, List, length, All}
use Rattle.stg_net.specs.declared.limits.TheConstants.Limits.{PART}
use Rattle.stg_net.specs.declared.spec.PlaceName.{PlaceName}
use Rattle.stg_net.specs.declared.spec.PlaceName.TheVariants.{Named, Between}
use Rattle.stg_net.specs.Net.{NetLists, IsNet, IsWithin}
use Rattle.stg_net.specs.Names.{IsWellNamed}

-- what a specification is seen as: its net, and one name for each place
pub record SpecLists : Type 0 where
  pub net : NetLists
  pub place_names : List PlaceName

-- a place between two transitions names two of the net's
abbrev pub IsPlaceNameOf : ℕ → PlaceName → Type 0
IsPlaceNameOf trans (Named name) = ⊤
IsPlaceNameOf trans (Between from to) = (from < trans) × (to < trans)

-- the lists are a net within the limits of a component, its names have
-- their form, and each place has one name
pub record IsSpec (s : SpecLists) : Type 0 where
  pub is_net : IsNet s.net
  pub within : IsWithin PART s.net
  pub well_named : IsWellNamed s.net
  pub each_named : length s.place_names ≡ length s.net.tokens
  pub in_range : All (IsPlaceNameOf (length s.net.trans)) s.place_names
