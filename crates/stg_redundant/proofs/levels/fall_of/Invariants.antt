use Rattle.stg_redundant.proofs.LevelBounds.{GrowBelow}
use Rattle.stg_redundant.proofs.levels.fall_of.Given as goal

abbrev pub invariant-loop-p : goal.invariant-loop-p
invariant-loop-p l = GrowBelow l.editor.now (record { numbers = l.numbers; rise = l.rise; fall = l.fall }) l.p
