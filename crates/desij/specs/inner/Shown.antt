-- What the line of a refused partition shows.
use Rattle.std.specs.Prelude.{◌<◌, length, ⊤}
use Rattle.stg_net.specs.Net.{NetLists}
use Rattle.stg_partition.specs.declared.error.GroupError.{GroupError}
use Rattle.stg_partition.specs.declared.error.GroupError.TheVariants as group_error

-- the signals and the place of the error are those of the net
abbrev pub IsShown : NetLists → GroupError → Type 0
IsShown n (group_error.BadLine line) = ⊤
IsShown n (group_error.UnknownOutput line) = ⊤
IsShown n (group_error.OutputTwice line) = ⊤
IsShown n (group_error.OutputMissing s) = s < length n.signals
IsShown n (group_error.SplitConflict x y place) =
    (x < length n.signals) × ((y < length n.signals) × (place < length n.tokens))
IsShown n group_error.NoMemory = ⊥
