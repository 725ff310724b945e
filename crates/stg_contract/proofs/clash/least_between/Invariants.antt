use Rattle.std.proofs.Common.{◌≡◌}
use Rattle.stg_contract.specs.inner.Searches as searches
use Rattle.stg_contract.specs.inner.Weights.{AreTrans}
use Rattle.stg_edit.specs.Walks.{taking_trans}
use Rattle.stg_contract.proofs.clash.least_between.Given as goal

abbrev pub invariant-loop-u : goal.invariant-loop-u
invariant-loop-u l = record {
  live : AreTrans l.editor.now l.u-iterator;
  left : searches.least_across l.editor.now (taking_trans l.editor.now l.q) l.least l.u-iterator ≡ searches.least_between l.editor.now l.q l.fn.first l.p;
}
