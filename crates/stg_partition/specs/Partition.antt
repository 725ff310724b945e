-- The partitions that texts name: feasible groups, or why a text names none.
use Rattle.std.specs.Prelude.{◌≡◌, ℕ, ◌<◌, ◌≤◌, ◌⊎◌, Bool, not, ◌&&◌, List, length, map, IsTrue, Result, Ok, Err}
use Rattle.std.specs.List.{list_any}
use Rattle.stg_net.specs.declared.signal.Signal.{Signal}
use Rattle.stg_net.specs.Net.{NetLists, IsNet, signal_at}
use Rattle.stg_net.specs.Component.{is_one_of}
use Rattle.stg_net.specs.Graph.{is_among}
use Rattle.stg_net.specs.Ordered.{numbers_where}
use Rattle.stg_laws.specs.Groups.{is_driven_at, takes_from, known_to}
use Rattle.stg_laws.specs.PlainGroups.{Group, AreFeasible}
use Rattle.stg_partition.specs.declared.error.GroupError.{GroupError}
use Rattle.stg_partition.specs.declared.error.GroupError.TheVariants as errors
use Rattle.stg_partition.specs.PartitionText.{GroupRow, rows_of}

-- whether the row has the name of the signal of that number
abbrev pub is_named_in : List Signal → GroupRow → ℕ → Bool
is_named_in signals row s = is_among row (signal_at signals s).name

-- the signals that a row names, in ascending order
abbrev pub own_of : NetLists → GroupRow → List ℕ
own_of n row = numbers_where (is_named_in n.signals row) (length n.signals)

-- the group of a row
abbrev pub row_group : NetLists → GroupRow → Group
row_group n row = record { own = own_of n row; known = known_to n (own_of n row) }

-- a group for each row
abbrev pub row_groups :
    NetLists → Result (List GroupRow) GroupError → Result (List Group) GroupError
row_groups n (Ok rows) = Ok (map (row_group n) rows)
row_groups n (Err e) = Err e

-- the groups that the lines of a text name, in their order, or the refusal of its first bad line
abbrev pub groups_in : NetLists → List ℕ → Result (List Group) GroupError
groups_in n text = row_groups n (rows_of n.signals text)

-- whether the signal stands in one of the groups
abbrev pub stands_in : List Group → ℕ → Bool
stands_in groups s = list_any (λ (group : Group). is_one_of group.own s) groups

-- whether one of the groups has both signals
abbrev pub stand_together : List Group → ℕ → ℕ → Bool
stand_together groups x y =
    list_any (λ (group : Group). is_one_of group.own x && is_one_of group.own y) groups

-- whether the signals stand in different groups
abbrev pub stand_apart : List Group → ℕ → ℕ → Bool
stand_apart groups x y =
    stands_in groups x && stands_in groups y && not (stand_together groups x y)

-- whether the signal is an output or internal one that stands in no group
abbrev pub is_missing : NetLists → List Group → ℕ → Bool
is_missing n groups s = is_driven_at n.signals s && not (stands_in groups s)

-- the signal is missing, and no lesser one is
pub record IsLeastMissing (n : NetLists) (groups : List Group) (s : ℕ) : Type 0 where
  pub missing : IsTrue (is_missing n groups s)
  pub least : (r : ℕ) → IsTrue (is_missing n groups r) → s ≤ r

-- none is missing
abbrev pub AreWhole : NetLists → List Group → Type 0
AreWhole n groups = (s : ℕ) → ¬ IsTrue (is_missing n groups s)

-- x and y, the lesser first, stand in different groups, and transitions of both take from the place
pub record IsSplit (n : NetLists) (groups : List Group) (x y place : ℕ) : Type 0 where
  pub ascends : x < y
  pub apart : IsTrue (stand_apart groups x y)
  pub x_takes : IsTrue (takes_from n x place)
  pub y_takes : IsTrue (takes_from n y place)

-- so they do, and no split is lesser: by the first signal, then by the second, then by the place
pub record IsLeastSplit (n : NetLists) (groups : List Group) (x y place : ℕ) : Type 0 where
  pub split : IsSplit n groups x y place
  pub least : (v w q : ℕ) → IsSplit n groups v w q
      → ¬ ((v < x) ⊎ ((v ≡ x) × ((w < y) ⊎ ((w ≡ y) × (q < place)))))

-- the text names these groups, and they are feasible
pub record ArePartition (n : NetLists) (text : List ℕ) (groups : List Group) : Type 0 where
  pub named : groups_in n text ≡ Ok groups
  pub feasible : AreFeasible n groups

-- each line of the text is good, and s is the least signal that is missing in its groups
pub record MissesOutput (n : NetLists) (text : List ℕ) (s : ℕ) : Type 0 where
  pub groups : List Group
  pub named : groups_in n text ≡ Ok groups
  pub least : IsLeastMissing n groups s

-- none is missing in its groups, and this is their least split
pub record SplitsConflict (n : NetLists) (text : List ℕ) (x y place : ℕ) : Type 0 where
  pub groups : List Group
  pub named : groups_in n text ≡ Ok groups
  pub whole : AreWhole n groups
  pub least : IsLeastSplit n groups x y place

-- the error tells why the text names no partition
abbrev pub IsRefusedPartition : NetLists → List ℕ → GroupError → Type 0
IsRefusedPartition n text (errors.BadLine line) = groups_in n text ≡ Err (errors.BadLine line)
IsRefusedPartition n text (errors.UnknownOutput line) =
    groups_in n text ≡ Err (errors.UnknownOutput line)
IsRefusedPartition n text (errors.OutputTwice line) =
    groups_in n text ≡ Err (errors.OutputTwice line)
IsRefusedPartition n text (errors.OutputMissing s) = MissesOutput n text s
IsRefusedPartition n text (errors.SplitConflict x y place) = SplitsConflict n text x y place
IsRefusedPartition n text errors.NoMemory = ⊥

-- the text names these groups, which are feasible, or is refused by this error
abbrev pub IsAnswer : NetLists → List ℕ → Result (List Group) GroupError → Type 0
IsAnswer n text (Ok groups) = ArePartition n text groups
IsAnswer n text (Err e) = IsRefusedPartition n text e

-- the text has this answer and no other
pub record HasOneAnswer (n : NetLists) (text : List ℕ) : Type 0 where
  pub answer : Result (List Group) GroupError
  pub is : IsAnswer n text answer
  pub only : (other : Result (List Group) GroupError) → IsAnswer n text other → other ≡ answer

-- each text names one partition of a net or is refused by one error
abbrev pub EachTextHasOneAnswer : Type 0
EachTextHasOneAnswer = (n : NetLists) (text : List ℕ) → IsNet n → HasOneAnswer n text
