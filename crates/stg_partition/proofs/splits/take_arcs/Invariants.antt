use Rattle.std.proofs.Common.{◌≡◌, length, drop}
use Rattle.stg_partition.specs.inner.Splits.{least_takers}
use Rattle.stg_partition.proofs.splits.take_arcs.Given as goal

-- the takers after the arcs from i on
abbrev pub invariant-loop-i : goal.invariant-loop-i
invariant-loop-i l = record {
  long : length l.takers ≡ length l.initial.takers;
  takers_are : l.takers ≡ least_takers l.net l.initial.takers (drop l.i l.arcs);
}
