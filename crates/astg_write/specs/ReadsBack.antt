-- What it is for a text to be read back as a net.
use Rattle.std.specs.Prelude.{◌≡◌, ℕ, ◌+◌, ◌<◌, List, length, slice_index_or, Ok, false}
use Rattle.stg_net.specs.declared.limits.TheConstants.Limits.{PART}
use Rattle.stg_net.specs.Net.{NetLists}
use Rattle.stg_net.specs.Spec.{SpecLists}
use Rattle.astg_read.specs.Reading.{Meaning, reading, IsSpecOf}
use Rattle.astg_write.specs.ComponentText.{component_text}

-- The text stands for something, some specification is that of the
-- text, and each such one has this very net.
pub record ReadsBack (n : NetLists) (text : List ℕ) : Type 0 where
  pub meaning : Meaning
  pub stands : reading false PART text ≡ Ok meaning
  pub spec : SpecLists
  pub given : IsSpecOf meaning spec
  pub only : (s : SpecLists) → IsSpecOf meaning s → s.net ≡ n

-- each net is read back from its text, whose number is its place in the list, counted from 1
abbrev pub AreReadBack : List NetLists → Type 0
AreReadBack nets =
    (k : ℕ) (none : NetLists) → k < length nets
    → ReadsBack (slice_index_or nets k none) (component_text (slice_index_or nets k none) (k + 1))
