-- What is read of texts, and why it isn't.
use Rattle.std.specs.Prelude.{◌≡◌, ℕ, ◌+◌, ◌≤◌, ◌<◌, ◌⊎◌, List, length, Option, None, Some, IsSome, IsSomeAnd, ⊤}
use Rattle.std.specs.Io.KnownBytes.{IsAtEnd, prepend_known}
use Rattle.stg_net.specs.declared.limits.TheConstants.Limits.{SPEC}
use Rattle.stg_net.specs.Spec.{SpecLists}
use Rattle.stg_derive.specs.declared.part.Part.{Part}
use Rattle.io_shelf.specs.Outside.{SeenSource, IsMissing, Rose, named}
use Rattle.desij.specs.Answering.{Accepts, HasAnswer, IsAcceptable, IsRefusedBy, IsRefusedByGroups}

-- the names of the files that are read: the specification's, and the partition's if one is named
pub record Inputs : Type 0 where
  pub spec : List ℕ
  pub partition : Option (List ℕ)

-- of these names
abbrev pub inputs : List ℕ → Option (List ℕ) → Inputs
inputs spec partition = record { spec = spec; partition = partition }

-- so many bytes are read at most: one more than a text may have
abbrev pub most_read : ℕ
most_read = SPEC.bytes + 1

-- this is the whole text of that name, where texts are told
abbrev pub HasText : List ℕ → List ℕ → SeenSource → Type 0
HasText name text source = IsSome source.texts → named source.texts name ≡ Some text

-- where a file is named, this is its whole text, where texts are told
abbrev pub HasTextOf : Option (List ℕ) → Option (List ℕ) → SeenSource → Type 0
HasTextOf None None source = ⊤
HasTextOf (Some name) (Some text) source = HasText name text source
HasTextOf None (Some text) source = ⊥
HasTextOf (Some name) None source = ⊥

-- This is the text of that name, where texts are told: the whole of it, or its first bytes, so many
-- as may be read, where it has more. The rest is left.
pub record ReadsUpTo (most : ℕ) (name text : List ℕ) (old new : SeenSource) : Type 0 where
  pub told : IsSome old.texts → named old.texts name ≡ prepend_known text new.left
  pub some_left : IsSome old.texts → IsSome new.left
  pub at_most : length text ≤ most
  pub rest : length text < most → IsAtEnd new.left

-- how many files are named: one, and the partition's if there is one
abbrev pub count_files : Option (List ℕ) → ℕ
count_files None = 1
count_files (Some file) = 2

-- so many are named
abbrev pub named_files : Inputs → ℕ
named_files d = count_files d.partition

-- Each text that the words name was read whole, and nothing is left of the last one. The text
-- stands for this specification, and these are its parts.
pub record IsAccepted (d : Inputs) (spec : SpecLists) (parts : List Part)
    (old new : SeenSource) : Type 0 where
  pub text : List ℕ
  pub has_text : HasText d.spec text old
  pub partition : Option (List ℕ)
  pub has_partition : HasTextOf d.partition partition old
  pub some_left : IsSome old.texts → IsSome new.left
  pub nothing_left : IsAtEnd new.left
  pub selects : new.selects ≡ old.selects + named_files d
  pub answer : HasAnswer text partition spec parts

-- what was read of the specification's text is refused by this line, and no other text was selected
pub record IsRefusedText (d : Inputs) (line : List ℕ) (old new : SeenSource) : Type 0 where
  pub text : List ℕ
  pub read : ReadsUpTo most_read d.spec text old new
  pub selects : new.selects ≡ old.selects + 1
  pub refused : IsRefusedBy text line

-- the specification's text was read whole and is accepted, and what was read of the partition is
-- refused by this line
pub record IsRefusedPartitionOf (d : Inputs) (line : List ℕ)
    (old new : SeenSource) : Type 0 where
  pub text : List ℕ
  pub has_text : HasText d.spec text old
  pub spec : SpecLists
  pub accepts : Accepts text spec
  pub file : List ℕ
  pub names : d.partition ≡ Some file
  pub partition : List ℕ
  pub read : ReadsUpTo most_read file partition old new
  pub selects : new.selects ≡ old.selects + 2
  pub refused : IsRefusedByGroups spec partition line

-- what was read is refused by this line
abbrev pub IsRefused : Inputs → List ℕ → SeenSource → SeenSource → Type 0
IsRefused d line old new = IsRefusedText d line old new ⊎ IsRefusedPartitionOf d line old new

-- the source tells a text of that name, which stands for a specification without structural
-- auto-conflicts
abbrev pub TellsAcceptable : List ℕ → SeenSource → Type 0
TellsAcceptable name source = IsSomeAnd (named source.texts name) IsAcceptable

-- the source tells no text of the partition's name, but one of the specification that is accepted
pub record LacksPartition (d : Inputs) (source : SeenSource) : Type 0 where
  pub accepted : TellsAcceptable d.spec source
  pub missing : IsSomeAnd d.partition (λ file. IsMissing file source)

-- the source tells its texts, and lacks one that is to be read
abbrev pub LacksText : Inputs → SeenSource → Type 0
LacksText d source = IsMissing d.spec source ⊎ LacksPartition d source

-- the text of the specification was read whole and is accepted, and one more text was selected
pub record HasComeToPartition (d : Inputs) (old new : SeenSource) : Type 0 where
  pub text : List ℕ
  pub has_text : HasText d.spec text old
  pub spec : SpecLists
  pub accepts : Accepts text spec
  pub selects : new.selects ≡ old.selects + 2

-- The count of the source's faults rose while the text of the specification was read, or that of
-- the partition, after the specification was accepted.
pub record FailsToRead (d : Inputs) (old new : SeenSource) : Type 0 where
  pub rose : Rose old.faults new.faults
  pub turn : (new.selects ≡ old.selects + 1) ⊎ HasComeToPartition d old new

-- the source failed, or it lacks a text that is to be read
abbrev pub IsUnreadable : Inputs → SeenSource → SeenSource → Type 0
IsUnreadable d old new = FailsToRead d old new ⊎ LacksText d old
