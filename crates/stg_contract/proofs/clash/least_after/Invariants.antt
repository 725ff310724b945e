use Rattle.std.proofs.Common.{◌≡◌}
use Rattle.stg_contract.specs.inner.Searches as searches
use Rattle.stg_contract.specs.inner.Weights.{ArePlaces}
use Rattle.stg_contract.proofs.clash.least_after.Given as goal

abbrev pub invariant-loop-q : goal.invariant-loop-q
invariant-loop-q l = record {
  live : ArePlaces l.editor.now l.q-iterator;
  left : searches.least_after l.editor.now l.p l.least l.q-iterator ≡ searches.least_after l.editor.now l.p l.fn.first l.fn.places;
}
