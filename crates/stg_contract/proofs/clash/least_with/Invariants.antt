use Rattle.std.proofs.Common.{◌≡◌}
use Rattle.stg_contract.specs.inner.Searches as searches
use Rattle.stg_contract.specs.inner.Weights.{AreTrans}
use Rattle.stg_contract.proofs.clash.least_with.Given as goal

abbrev pub invariant-loop-v : goal.invariant-loop-v
invariant-loop-v l = record {
  live : AreTrans l.editor.now l.v-iterator;
  left : searches.least_with l.editor.now l.u l.least l.v-iterator ≡ searches.least_with l.editor.now l.u l.fn.first l.fn.others;
}
