use Rattle.std.proofs.Common.{◌≡◌, drop}
use Rattle.stg_partition.specs.inner.Splits.{least_split}
use Rattle.stg_partition.proofs.splits.least_split.Given as goal

-- the least split of the arcs from i on
abbrev pub invariant-loop-i : goal.invariant-loop-i
invariant-loop-i l = l.least ≡ least_split l.net l.numbers l.takers (drop l.i l.arcs)
