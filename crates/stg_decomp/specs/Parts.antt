-- The parts of a specification: those of its groups' derivations, settled among each other. The
-- groups are the plain ones, or those that a text names.
use Rattle.std.specs.Prelude.{◌≡◌, ◌<◌, ℕ, List, [], length, map, slice_index_or, Option, Some, None}
use Rattle.stg_net.specs.Net.{NetLists}
use Rattle.stg_laws.specs.PlainGroups.{Group, ArePlainGroups}
use Rattle.stg_partition.specs.Partition.{ArePartition}
use Rattle.stg_derive.specs.declared.part.Part.{Part}
use Rattle.stg_crew.specs.Parts.{AreDerived, no_part}
use Rattle.stg_decomp.specs.Settled.{settled_parts}

-- the groups are the plain ones, or the feasible ones that the text names
abbrev pub AreGroupsOf : NetLists → Option (List ℕ) → List Group → Type 0
AreGroupsOf n None groups = ArePlainGroups n groups
AreGroupsOf n (Some text) groups = ArePartition n text groups

-- the parts are those of the groups' plain derivations, settled among each other
pub record ArePartsOf (n : NetLists) (groups : List Group) (parts : List Part) : Type 0 where
  pub derived : List Part
  pub are_derived : AreDerived n groups derived
  pub are_settled : parts ≡ settled_parts derived

-- so they are, for the plain groups or those that a text names
pub record AreParts (n : NetLists) (partition : Option (List ℕ))
    (parts : List Part) : Type 0 where
  pub groups : List Group
  pub are_groups : AreGroupsOf n partition groups
  pub are_parts : ArePartsOf n groups parts

-- the nets of the parts
abbrev pub nets_of : List Part → List NetLists
nets_of parts = map (λ (p : Part). p.net) parts

-- the net of that number
abbrev pub net_at : List NetLists → ℕ → NetLists
net_at nets k = slice_index_or nets k no_part.net
