use Rattle.std.proofs.Common.{◌≡◌, ◌+◌, ◌-◌, ◌^◌, ◌≤◌, min}
use Rattle.stg_contract.specs.inner.Weights.{ArePlaces}
use Rattle.stg_contract.specs.inner.Counts as counts
use Rattle.stg_contract.proofs.arcs.arcs_with_each.Given as goal

abbrev pub invariant-loop-q : goal.invariant-loop-q
invariant-loop-q l = record {
  live : ArePlaces l.editor.now l.q-iterator;
  left : min (l.count + counts.arcs_with_each l.editor.now l.t l.p l.q-iterator) (2 ^ 64 - 1) ≡ min (counts.arcs_with_each l.editor.now l.t l.p l.fn.places) (2 ^ 64 - 1);
  few : l.count ≤ 2 ^ 64 - 1;
}
