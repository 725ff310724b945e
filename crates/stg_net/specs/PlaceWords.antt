-- The words of a specification's places.
use Rattle.std.specs.Prelude.{ℕ, List, [], ◌∷◌, ◌++◌, slice_get}
use Rattle.std.specs.Option.{option_map_or}
use Rattle.stg_net.specs.declared.spec.PlaceName.{PlaceName}
use Rattle.stg_net.specs.declared.spec.PlaceName.TheVariants.{Named, Between}
use Rattle.stg_net.specs.Net.{NetLists}
use Rattle.stg_net.specs.Spec.{SpecLists}
use Rattle.stg_net.specs.Words.{trans_word}

-- two transitions between < (60) and > (62), with a comma (44)
abbrev pub between_word : NetLists → ℕ → ℕ → List ℕ
between_word n from to =
    60 ∷ trans_word n.signals n.trans from ++ 44 ∷ trans_word n.signals n.trans to ++ 62 ∷ []

-- a place's own name, or the two transitions between which it stands
abbrev pub word_of_place : NetLists → PlaceName → List ℕ
word_of_place n (Named name) = name
word_of_place n (Between from to) = between_word n from to

-- the word of the place of that number
abbrev pub place_word : SpecLists → ℕ → List ℕ
place_word s p = option_map_or (word_of_place s.net) (slice_get s.place_names p) []
