-- What the answer to a specification tells of its structural auto-conflicts and of its partition.
use Rattle.std.specs.Prelude.{ℕ, List, Option, None, Some, Result, Ok, Err}
use Rattle.stg_net.specs.Net.{NetLists}
use Rattle.stg_conflict.specs.declared.clash.Clash.{Clash}
use Rattle.stg_partition.specs.declared.error.GroupError.{GroupError}
use Rattle.stg_partition.specs.Partition.{IsRefusedPartition}
use Rattle.stg_decomp.specs.declared.error.DecompError.{DecompError}
use Rattle.stg_decomp.specs.declared.error.DecompError.TheVariants as decomp_error
use Rattle.stg_decomp.specs.declared.part.Answer.{Answer}

-- the clash that is told, if one is
abbrev pub clash_told : Result Answer DecompError → Option Clash
clash_told (Ok answer) = None
clash_told (Err (decomp_error.Clash c)) = Some c
clash_told (Err (decomp_error.Groups e)) = None
clash_told (Err decomp_error.NoMemory) = None

-- the refusal of the partition that is told, if one is
abbrev pub refusal_told : Result Answer DecompError → Option GroupError
refusal_told (Ok answer) = None
refusal_told (Err (decomp_error.Clash c)) = None
refusal_told (Err (decomp_error.Groups e)) = Some e
refusal_told (Err decomp_error.NoMemory) = None

-- a text is given, and it is refused by this error
abbrev pub IsPartitionRefusedBy : NetLists → Option (List ℕ) → GroupError → Type 0
IsPartitionRefusedBy n None e = ⊥
IsPartitionRefusedBy n (Some text) e = IsRefusedPartition n text e
