-- The parts of groups, by their numbers.
use Rattle.std.specs.Prelude.{◌≡◌, ◌<◌, ℕ, List, [], All, length, slice_index_or}
use Rattle.stg_net.specs.declared.limits.TheConstants.Limits.{PART}
use Rattle.stg_net.specs.Initial.{graph_of}
use Rattle.stg_net.specs.Names.{IsWellNamed}
use Rattle.stg_net.specs.Net.{NetLists, IsNet, IsWithin}
use Rattle.stg_laws.specs.Faithful.{IsFaithful}
use Rattle.stg_laws.specs.PlainGroups.{Group}
use Rattle.stg_laws.specs.Stgs.{stg_of}
use Rattle.stg_derive.specs.declared.part.Part.{Part}
use Rattle.stg_derive.specs.Derivations.{IsDerivedPart}
use Rattle.stg_derive.specs.Loggable.{IsLoggable}
use Rattle.stg_derive.specs.Undoing.{IsExactlyWorn}

-- a part without anything, which stands at no number
abbrev pub no_part : Part
no_part = record {
  net = record { signals = []; trans = []; tokens = []; arcs = [] };
  own = [];
  known = [];
  restored = [];
  steps = [];
  wear = record { edits = 0; undone = 0 };
}

-- the part of that number
abbrev pub part_at : List Part → ℕ → Part
part_at parts i = slice_index_or parts i no_part

-- a group without signals, which stands at no number
abbrev pub no_group : Group
no_group = record { own = []; known = [] }

-- the group of that number
abbrev pub group_in : List Group → ℕ → Group
group_in groups i = slice_index_or groups i no_group

-- each group knows signals of the net alone
abbrev pub AreKnownInRange : NetLists → List Group → Type 0
AreKnownInRange n groups =
    All (λ (group : Group). All (λ s. s < length n.signals) group.known) groups

-- the parts are those of the groups' plain derivations, in the order of the groups
pub record AreDerived (n : NetLists) (groups : List Group) (parts : List Part) : Type 0 where
  pub as_many : length parts ≡ length groups
  pub each : (i : ℕ) → i < length groups → IsDerivedPart n (group_in groups i) (part_at parts i)

-- each of the parts has the wear of its group's plain derivation
abbrev pub AreExactlyWorn : NetLists → List Group → List Part → Type 0
AreExactlyWorn n groups parts =
    (i : ℕ) → i < length groups → IsExactlyWorn n (group_in groups i) (part_at parts i)

-- the part is that of the group's plain derivation with its wear, and is faithful, can be written
-- and logged
pub record IsPartOf (n : NetLists) (group : Group) (part : Part) : Type 0 where
  pub derived : IsDerivedPart n group part
  pub worn : IsExactlyWorn n group part
  pub net : IsNet part.net
  pub within : IsWithin PART part.net
  pub named : IsWellNamed part.net
  pub faithful : IsFaithful (graph_of n) (stg_of part.net)
  pub loggable : IsLoggable n part
