use Rattle.std.proofs.Common.{ℕ, ◌<◌}
use Rattle.stg_net.specs.Graph.{IsDummy}
use Rattle.stg_derive.proofs.choice.first_dummy.Given as goal

abbrev pub invariant-loop-t : goal.invariant-loop-t
invariant-loop-t l = (u : ℕ) → u < l.t → ¬ IsDummy l.editor.now u
