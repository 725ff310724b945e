use Rattle.std.proofs.Common.{◌≡◌, ◌+◌, ◌-◌, ◌^◌, ◌≤◌, min}
use Rattle.stg_contract.specs.inner.Weights.{ArePlaces}
use Rattle.stg_contract.specs.inner.Counts as counts
use Rattle.stg_contract.proofs.arcs.arcs_round.Given as goal

abbrev pub invariant-loop-p : goal.invariant-loop-p
invariant-loop-p l = record {
  live : ArePlaces l.editor.now l.p-iterator;
  left : min (l.count + counts.arcs_of_each l.editor.now l.t l.p-iterator) (2 ^ 64 - 1) ≡ min (counts.arcs_round l.editor.now l.t) (2 ^ 64 - 1);
  few : l.count ≤ 2 ^ 64 - 1;
}
