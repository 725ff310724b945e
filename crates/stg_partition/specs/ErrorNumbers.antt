-- The numbers of the reasons why a text is no partition.
use Rattle.std.specs.Prelude.{ℕ}
use Rattle.stg_partition.specs.declared.error.GroupError.{GroupError}
use Rattle.stg_partition.specs.declared.error.GroupError.TheVariants.{BadLine, UnknownOutput, OutputTwice, OutputMissing, SplitConflict, NoMemory}

-- the number of an error
abbrev pub group_error_number : GroupError → ℕ
group_error_number (BadLine line) = 1
group_error_number (UnknownOutput line) = 2
group_error_number (OutputTwice line) = 3
group_error_number (OutputMissing s) = 4
group_error_number (SplitConflict x y place) = 5
group_error_number NoMemory = 6
