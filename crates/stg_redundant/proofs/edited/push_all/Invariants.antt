use Rattle.stg_redundant.specs.inner.Chains.{IsAmong}
use Rattle.stg_redundant.proofs.Besides.{HasBesidesButLeft}
use Rattle.stg_redundant.proofs.edited.push_all.Given as goal

abbrev pub invariant-loop-p : goal.invariant-loop-p
invariant-loop-p l = HasBesidesButLeft (λ p. IsAmong p l.fn.places) (λ p. IsAmong p l.p-iterator) l.fn.list.items l.list.items
