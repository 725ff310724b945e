use Rattle.stg_partition.specs.inner.Joining.{IsJoining}
use Rattle.stg_partition.proofs.join.join_all.Given as goal

abbrev pub invariant-loop-arc : goal.invariant-loop-arc
invariant-loop-arc l = IsJoining l.net l.arc-index l.leaders l.takers
