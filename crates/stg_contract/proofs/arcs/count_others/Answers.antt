use Rattle.std.proofs.Common.{arith}
use Rattle.stg_contract.proofs.EitherCounts.{length-filter_less}
use Rattle.stg_contract.specs.inner.Counts.{is_other}
use Rattle.stg_contract.proofs.arcs.count_others.Goals as goal

pub overflow_add-count : goal.overflow_add-count
overflow_add-count c = omega (arith, c.loop-u.invariant, length-filter_less (is_other c.args.t) c.args.walk, c.requires)
