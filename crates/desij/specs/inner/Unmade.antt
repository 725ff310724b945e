-- When texts have no parts.
use Rattle.std.specs.Prelude.{ℕ, List, Option, None, Some, ⊤, ◌⊎◌}
use Rattle.stg_net.specs.Spec.{SpecLists}
use Rattle.io_shelf.specs.Outside.{SeenSource, IsMissing, Rose}
use Rattle.desij.specs.Answering.{IsRefusedBy, IsRefusedByGroups}
use Rattle.desij.specs.Reading.{Inputs, IsRefused, IsUnreadable, ReadsUpTo, most_read}
use Rattle.desij.specs.declared.answer.Unmade.{Unmade}
use Rattle.desij.specs.declared.answer.Unmade.TheVariants.{Unread, Refused, NoMemory}
use Rattle.desij.specs.declared.reading.TextError.{TextError}
use Rattle.desij.specs.declared.reading.TextError.TheVariants as text_error

-- there are no parts where a text isn't read
abbrev pub unmade_by : TextError → Unmade
unmade_by text_error.Failed = Unread
unmade_by text_error.Missing = Unread
unmade_by text_error.NoMemory = NoMemory

-- where a line is told, it refuses the text
abbrev pub IsTold : List ℕ → Unmade → Type 0
IsTold text Unread = ⊥
IsTold text (Refused line) = IsRefusedBy text line
IsTold text NoMemory = ⊤

-- where a line is told, there is a partition, and it refuses this
abbrev pub IsToldOf : SpecLists → Option (List ℕ) → Unmade → Type 0
IsToldOf spec partition Unread = ⊥
IsToldOf spec None (Refused line) = ⊥
IsToldOf spec (Some text) (Refused line) = IsRefusedByGroups spec text line
IsToldOf spec partition NoMemory = ⊤

-- why a text of that name gives no specification
abbrev pub IsUntaken : List ℕ → Unmade → SeenSource → SeenSource → Type 0
IsUntaken name Unread old new = Rose old.faults new.faults ⊎ IsMissing name old
IsUntaken name (Refused line) old new =
    (text : List ℕ) × (ReadsUpTo most_read name text old new × IsRefusedBy text line)
IsUntaken name NoMemory old new = ⊤

-- why what the words call for gives no parts
abbrev pub IsUnmade : Inputs → Unmade → SeenSource → SeenSource → Type 0
IsUnmade d Unread old new = IsUnreadable d old new
IsUnmade d (Refused line) old new = IsRefused d line old new
IsUnmade d NoMemory old new = ⊤

-- why the text of a named partition wasn't read
abbrev pub IsPartitionUnread : Option (List ℕ) → Unmade → SeenSource → SeenSource → Type 0
IsPartitionUnread None e old new = ⊥
IsPartitionUnread (Some file) Unread old new = Rose old.faults new.faults ⊎ IsMissing file old
IsPartitionUnread (Some file) (Refused line) old new = ⊥
IsPartitionUnread (Some file) NoMemory old new = ⊤

-- how many texts a partition adds to those that are selected
abbrev pub partition_count : Option (List ℕ) → ℕ
partition_count None = 0
partition_count (Some file) = 1
