use Rattle.std.proofs.Common.{◌≡◌, slice_index}
use Rattle.stg_net.specs.Ordered.{numbers_with}
use Rattle.stg_partition.proofs.plain.list_own.Given as goal

abbrev pub invariant-loop-s : goal.invariant-loop-s
invariant-loop-s l = l.own ≡ numbers_with (slice_index l.leaders) l.s l.leader
