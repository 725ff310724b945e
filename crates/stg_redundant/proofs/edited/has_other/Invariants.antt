use Rattle.std.proofs.Common.{ℕ}
use Rattle.stg_redundant.specs.inner.Chains.{IsAmong}
use Rattle.stg_redundant.specs.Watching.{HasOtherAmong}
use Rattle.stg_redundant.proofs.edited.has_other.Given as goal

abbrev pub invariant-loop-p : goal.invariant-loop-p
invariant-loop-p l = record {
  left : (q : ℕ) → IsAmong q l.p-iterator → IsAmong q l.fn.places;
  rest : HasOtherAmong l.editor.now (λ q. IsAmong q l.fn.places) → HasOtherAmong l.editor.now (λ q. IsAmong q l.p-iterator);
}
