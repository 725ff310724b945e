use Rattle.std.proofs.Common.{◌≡◌}
use Rattle.std.specs.List.{list_all}
use Rattle.stg_contract.specs.inner.Weights.{ArePlaces}
use Rattle.stg_contract.specs.inner.Tests.{is_sole_taker as sole}
use Rattle.stg_contract.proofs.secure.is_sole_taker.Given as goal

abbrev pub invariant-loop-p : goal.invariant-loop-p
invariant-loop-p l = record {
  live : ArePlaces l.editor.now l.p-iterator;
  left : list_all (sole l.editor.now l.t) l.p-iterator ≡ list_all (sole l.editor.now l.t) l.fn.places;
}
