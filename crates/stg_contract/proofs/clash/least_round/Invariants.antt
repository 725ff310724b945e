use Rattle.std.proofs.Common.{◌≡◌}
use Rattle.stg_contract.specs.inner.Searches as searches
use Rattle.stg_contract.specs.inner.Weights.{ArePlaces}
use Rattle.stg_edit.specs.Walks.{given_places}
use Rattle.stg_contract.proofs.clash.least_round.Given as goal

abbrev pub invariant-loop-p : goal.invariant-loop-p
invariant-loop-p l = record {
  live : ArePlaces l.editor.now l.p-iterator;
  left : searches.least_before l.editor.now (given_places l.editor.now l.t) l.least l.p-iterator ≡ searches.least_round l.editor.now l.t;
}
