use Rattle.std.proofs.Common.{◌≡◌}
use Rattle.stg_net.specs.Ordered.{numbers_where}
use Rattle.stg_partition.specs.Partition.{is_named_in}
use Rattle.stg_partition.specs.inner.WordTexts.{texts_of}
use Rattle.stg_partition.proofs.partition.list_own.Given as goal

abbrev pub invariant-loop-s : goal.invariant-loop-s
invariant-loop-s l = l.own ≡ numbers_where (is_named_in l.signals (texts_of l.row)) l.s
