use Rattle.std.proofs.Common.{◌≡◌}
use Rattle.stg_contract.specs.inner.Weights.{ArePlaces}
use Rattle.stg_contract.specs.inner.Sums as sums
use Rattle.stg_contract.proofs.large.is_large_after.Given as goal

abbrev pub invariant-loop-q : goal.invariant-loop-q
invariant-loop-q l = record {
  live : ArePlaces l.editor.now l.q-iterator;
  left : sums.is_large_after l.editor.now l.t l.p l.q-iterator ≡ sums.is_large_after l.editor.now l.t l.p l.fn.places;
}
