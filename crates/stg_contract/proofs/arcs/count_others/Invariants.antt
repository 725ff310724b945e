use Rattle.std.proofs.Common.{◌≡◌, ◌+◌}
use Rattle.stg_contract.specs.inner.Counts as counts
use Rattle.stg_contract.proofs.arcs.count_others.Given as goal

abbrev pub invariant-loop-u : goal.invariant-loop-u
invariant-loop-u l = l.count + counts.count_others l.t l.u-iterator ≡ counts.count_others l.t l.fn.walk
