use Rattle.std.proofs.Common.{◌≡◌}
use Rattle.stg_contract.specs.inner.Searches as searches
use Rattle.stg_contract.proofs.clash.least_at_left.Given as goal

abbrev pub invariant-loop-p : goal.invariant-loop-p
invariant-loop-p l = l.least ≡ searches.least_left_below l.editor.now l.t l.fn.first l.p
