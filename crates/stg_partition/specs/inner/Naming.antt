-- The groups that good lines name, and why they aren't feasible.
use Rattle.std.specs.Prelude.{ℕ, List, All, AllPairs, Contains}
use Rattle.stg_net.specs.Net.{NetLists}
use Rattle.stg_laws.specs.PlainGroups.{Group, IsFeasibleGroup}
use Rattle.stg_partition.specs.declared.error.GroupError.{GroupError}
use Rattle.stg_partition.specs.declared.error.GroupError.TheVariants as errors
use Rattle.stg_partition.specs.Partition.{AreWhole, IsLeastMissing, IsLeastSplit}

-- each group is feasible, and no signal stands in two
pub record AreNamedGroups (n : NetLists) (groups : List Group) : Type 0 where
  pub feasible : All (IsFeasibleGroup n) groups
  pub apart : AllPairs (λ (g h : Group). (s : ℕ) → Contains g.own s → ¬ Contains h.own s) groups

-- the error tells why the groups aren't feasible together
abbrev pub AreRefusedBy : NetLists → List Group → GroupError → Type 0
AreRefusedBy n groups (errors.BadLine line) = ⊥
AreRefusedBy n groups (errors.UnknownOutput line) = ⊥
AreRefusedBy n groups (errors.OutputTwice line) = ⊥
AreRefusedBy n groups (errors.OutputMissing s) = IsLeastMissing n groups s
AreRefusedBy n groups (errors.SplitConflict x y place) =
    AreWhole n groups × IsLeastSplit n groups x y place
AreRefusedBy n groups errors.NoMemory = ⊥
