use Rattle.std.proofs.Common.{◌≡◌, ◌+◌}
use Rattle.stg_contract.specs.inner.Weights.{trans_round}
use Rattle.stg_contract.specs.inner.Counts as counts
use Rattle.stg_contract.proofs.arcs.count_apart.Given as goal

abbrev pub invariant-loop-u : goal.invariant-loop-u
invariant-loop-u l =
    l.count + counts.count_apart l.t (trans_round l.take l.editor.now l.q) l.u-iterator ≡ counts.count_apart l.t (trans_round l.take l.editor.now l.q) l.fn.walk
