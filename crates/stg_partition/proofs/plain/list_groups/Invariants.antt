use Rattle.std.proofs.Common.{◌≡◌}
use Rattle.stg_partition.specs.inner.Joining.{groups_below}
use Rattle.stg_partition.proofs.plain.list_groups.Given as goal

abbrev pub invariant-loop-s : goal.invariant-loop-s
invariant-loop-s l = l.groups ≡ groups_below l.net l.leaders l.flags l.s
