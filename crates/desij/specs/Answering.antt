-- The answer to a text: its parts, or the line that refuses it.
use Rattle.std.specs.Prelude.{◌≡◌, ◌⊎◌, ℕ, List, Option}
use Rattle.stg_net.specs.declared.limits.TheConstants.Limits.{SPEC}
use Rattle.stg_net.specs.Initial.{graph_of}
use Rattle.stg_net.specs.Spec.{SpecLists}
use Rattle.stg_laws.specs.Conflict.{HasNoAutoConflict, IsLeastClash}
use Rattle.stg_laws.specs.Faithful.{AreComponents}
use Rattle.stg_conflict.specs.declared.clash.Clash.{Clash}
use Rattle.astg_read.specs.declared.rule.Rule.{Rule}
use Rattle.astg_read.specs.Standing.{StandsFor, IsUnread}
use Rattle.astg_write.specs.ReadsBack.{AreReadBack}
use Rattle.stg_partition.specs.declared.error.GroupError.{GroupError}
use Rattle.stg_laws.specs.PlainGroups.{Group}
use Rattle.stg_partition.specs.Partition.{ArePartition, IsRefusedPartition}
use Rattle.stg_derive.specs.declared.part.Part.{Part}
use Rattle.stg_decomp.specs.Parts.{AreParts, nets_of}
use Rattle.desij.specs.Printing.{clash_line, group_refusal, refusal}

-- the text stands for this specification, which has no structural auto-conflict
pub record Accepts (text : List ℕ) (spec : SpecLists) : Type 0 where
  pub stands : StandsFor SPEC text spec
  pub no_clash : HasNoAutoConflict (graph_of spec.net)

-- These are the parts of the specification: those of its plain groups, or of the groups that the
-- partition names. Their nets are components of it: each is faithful to it, and together they are a
-- correct decomposition of it, where it is deterministic. Each is read back from its text.
pub record Decomposes (spec : SpecLists) (partition : Option (List ℕ))
    (parts : List Part) : Type 0 where
  pub made : AreParts spec.net partition parts
  pub components : AreComponents spec.net (nets_of parts)
  pub read_back : AreReadBack (nets_of parts)

-- the text stands for this specification, which has no structural auto-conflict, and these are its
-- parts
pub record HasAnswer (text : List ℕ) (partition : Option (List ℕ)) (spec : SpecLists)
    (parts : List Part) : Type 0 where
  pub accepts : Accepts text spec
  pub decomposes : Decomposes spec partition parts

-- the text's first bad line and the first rule that it breaks are told by this line
pub record IsRefusedByRule (text line : List ℕ) : Type 0 where
  pub rule : Rule
  pub number : ℕ
  pub unread : IsUnread SPEC text rule number
  pub told : line ≡ refusal rule number

-- the text stands for a specification with a structural auto-conflict, and this line tells the
-- least one
pub record IsRefusedByClash (text line : List ℕ) : Type 0 where
  pub spec : SpecLists
  pub stands : StandsFor SPEC text spec
  pub clash : Clash
  pub least : IsLeastClash (graph_of spec.net) clash.t1 clash.t2 clash.place
  pub told : line ≡ clash_line spec clash

-- the text is refused by this line
abbrev pub IsRefusedBy : List ℕ → List ℕ → Type 0
IsRefusedBy text line = IsRefusedByRule text line ⊎ IsRefusedByClash text line

-- the partition's text names no feasible groups of the specification, and this line tells why
pub record IsRefusedByGroups (spec : SpecLists) (partition line : List ℕ) : Type 0 where
  pub error : GroupError
  pub refused : IsRefusedPartition spec.net partition error
  pub told : line ≡ group_refusal spec error

-- the partition's text names feasible groups of the specification
pub record IsPartitionOf (spec : SpecLists) (partition : List ℕ) : Type 0 where
  pub groups : List Group
  pub are : ArePartition spec.net partition groups

-- some line refuses the text
pub record IsRefusable (text : List ℕ) : Type 0 where
  pub line : List ℕ
  pub refused : IsRefusedBy text line

-- the text stands for a specification without structural auto-conflicts
pub record IsAcceptable (text : List ℕ) : Type 0 where
  pub spec : SpecLists
  pub accepts : Accepts text spec
