use Rattle.std.proofs.Common.{ℕ, All}
use Rattle.stg_net.specs.Graph.{IsPlace}
use Rattle.stg_redundant.specs.inner.Flagging.{HasArcAmong}
use Rattle.stg_redundant.proofs.Besides.{HasBesidesButLeft}
use Rattle.stg_redundant.proofs.near.list_at_each.Given as goal

abbrev pub invariant-loop-p : goal.invariant-loop-p
invariant-loop-p l = record {
  live : All (λ (x : ℕ × ℕ). IsPlace l.editor.now x.0) l.p-iterator;
  left : HasBesidesButLeft (HasArcAmong l.editor.now l.fn.places) (HasArcAmong l.editor.now l.p-iterator) l.fn.list.items l.list.items;
}
