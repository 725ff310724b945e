use Rattle.std.proofs.Common.{◌≡◌, map, take}
use Rattle.stg_partition.specs.Partition.{row_group}
use Rattle.stg_partition.specs.inner.WordTexts.{texts_of}
use Rattle.stg_partition.proofs.partition.make_groups.Given as goal

-- the groups of the rows so far
abbrev pub invariant-loop-row : goal.invariant-loop-row
invariant-loop-row l = l.groups ≡ map (row_group l.net) (map texts_of (take l.row-index l.rows))
