use Rattle.std.proofs.Common.{◌≡◌}
use Rattle.std.specs.List.{list_any}
use Rattle.stg_contract.specs.inner.Weights.{ArePlaces}
use Rattle.stg_contract.specs.inner.Tests.{is_empty}
use Rattle.stg_contract.proofs.secure.has_empty.Given as goal

abbrev pub invariant-loop-p : goal.invariant-loop-p
invariant-loop-p l = record {
  live : ArePlaces l.editor.now l.p-iterator;
  left : list_any (is_empty l.editor.now) l.p-iterator ≡ list_any (is_empty l.editor.now) l.fn.places;
}
