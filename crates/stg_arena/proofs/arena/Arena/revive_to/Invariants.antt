use Rattle.std.proofs.Common.{length}
use Rattle.stg_arena.specs.Extends.{IsRevivedTo}
use Rattle.stg_arena.proofs.arena.Arena.revive_to.Given as goal

abbrev pub invariant-loop-self : goal.invariant-loop-self
invariant-loop-self l = IsRevivedTo l.moment l.initial.self l.self

abbrev pub decreases-loop-self : goal.decreases-loop-self
decreases-loop-self l = length l.self.removals
