-- What is taken of the texts before there are parts.
use Rattle.std.specs.Prelude.{◌≡◌, ℕ, List, Option, None, Some, IsSome}
use Rattle.std.specs.Io.KnownBytes.{IsAtEnd}
use Rattle.stg_net.specs.Spec.{SpecLists}
use Rattle.io_shelf.specs.Outside.{SeenSource}
use Rattle.desij.specs.Answering.{Accepts}
use Rattle.desij.specs.Reading.{HasText, ReadsUpTo, most_read}

-- nothing is left of the text that was selected last, and this is told where texts are
pub record HasReadAll (old new : SeenSource) : Type 0 where
  pub some_left : IsSome old.texts → IsSome new.left
  pub nothing_left : IsAtEnd new.left

-- the text of that name was read whole, and stands for this specification
pub record TakesSpec (name : List ℕ) (spec : SpecLists) (old new : SeenSource) : Type 0 where
  pub text : List ℕ
  pub has_text : HasText name text old
  pub all : HasReadAll old new
  pub accepts : Accepts text spec

-- where a file is named, its text was read
abbrev pub TakesPartition : Option (List ℕ) → Option (List ℕ) → SeenSource → SeenSource → Type 0
TakesPartition None None old new = new ≡ old
TakesPartition (Some file) (Some text) old new = ReadsUpTo most_read file text old new
TakesPartition None (Some text) old new = ⊥
TakesPartition (Some file) None old new = ⊥
