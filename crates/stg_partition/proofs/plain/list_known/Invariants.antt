use Rattle.std.proofs.Common.{◌≡◌}
use Rattle.stg_net.specs.Ordered.{numbers_where}
use Rattle.stg_partition.specs.inner.Joining.{is_known_by}
use Rattle.stg_partition.proofs.plain.list_known.Given as goal

abbrev pub invariant-loop-s : goal.invariant-loop-s
invariant-loop-s l = l.known ≡ numbers_where (is_known_by l.leaders l.flags l.leader) l.s
