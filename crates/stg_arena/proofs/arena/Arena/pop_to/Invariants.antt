use Rattle.std.proofs.Common.{ℕ, length}
use Rattle.stg_arena.specs.Truncation.{CanTruncate, IsTruncated}
use Rattle.stg_arena.proofs.arena.Arena.pop_to.Given as goal

abbrev pub invariant-loop-self : goal.invariant-loop-self
invariant-loop-self l = (n : ℕ) → CanTruncate n l.cells l.initial.self → IsTruncated n l.cells l.initial.self l.self

abbrev pub decreases-loop-self : goal.decreases-loop-self
decreases-loop-self l = length l.self.cells
