-- Which specification a text stands for, and by which rule it is refused.
use Rattle.std.specs.Prelude.{◌≡◌, ℕ, false, List, Ok, Err, ⊤}
use Rattle.stg_net.specs.declared.limits.Limits.{Limits}
use Rattle.stg_net.specs.Net.{NetLists}
use Rattle.stg_net.specs.Spec.{SpecLists}
use Rattle.astg_read.specs.declared.rule.Rule.{Rule}
use Rattle.astg_read.specs.declared.rule.ReadError.{ReadError}
use Rattle.astg_read.specs.declared.rule.ReadError.TheVariants as read_error
use Rattle.astg_read.specs.Reading.{Meaning, reading, IsSpecOf}

-- the text stands for the specification, within the limits
pub record StandsFor (limits : Limits) (text : List ℕ) (spec : SpecLists) : Type 0 where
  pub meaning : Meaning
  pub reads : reading false limits text ≡ Ok meaning
  pub is : IsSpecOf meaning spec

-- the text stands for a specification with this net
pub record StandsForNet (limits : Limits) (text : List ℕ) (n : NetLists) : Type 0 where
  pub spec : SpecLists
  pub stands : StandsFor limits text spec
  pub net : spec.net ≡ n

-- the text's first bad line is this one, and the first rule that it breaks is this one
abbrev pub IsUnread : Limits → List ℕ → Rule → ℕ → Type 0
IsUnread limits text rule line =
    reading false limits text ≡ Err (record { rule = rule; line = line })

-- an error that tells a rule and a line tells those of the text
abbrev pub IsUnreadBy : Limits → List ℕ → ReadError → Type 0
IsUnreadBy limits text (read_error.Refused rule line) = IsUnread limits text rule line
IsUnreadBy limits text read_error.NoMemory = ⊤
