use Rattle.std.proofs.Common.{◌≡◌, ℕ}
use Rattle.stg_arena.specs.WalkItems.{weighted}
use Rattle.stg_edit.proofs.Packing.{IsFilling}
use Rattle.stg_edit.proofs.compact.weights_of.Given as goal

abbrev pub invariant-loop-t : goal.invariant-loop-t
invariant-loop-t l = (w : ℕ → ℕ) → l.fn.walk ≡ weighted l.count w → IsFilling l.count w l.list.items l.t-iterator
