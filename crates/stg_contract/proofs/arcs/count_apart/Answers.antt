use Rattle.std.proofs.Common.{arith}
use Rattle.stg_contract.specs.inner.Weights.{trans_round}
use Rattle.stg_contract.specs.inner.Counts.{is_apart}
use Rattle.stg_contract.proofs.EitherCounts.{length-filter_less}
use Rattle.stg_contract.proofs.arcs.count_apart.Goals as goal

pub overflow_add-count : goal.overflow_add-count
overflow_add-count c =
    omega (arith, c.loop-u.invariant, length-filter_less (is_apart c.args.t (trans_round c.args.take c.args.editor.now.now c.args.q)) c.args.walk, c.requires.bounded)
