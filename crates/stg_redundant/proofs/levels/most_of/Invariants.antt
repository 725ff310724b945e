use Rattle.std.proofs.Common.{◌<◌, All, length}
use Rattle.stg_redundant.proofs.LevelBounds.{AreBelowButLeft}
use Rattle.stg_redundant.proofs.levels.most_of.Given as goal

abbrev pub invariant-loop-t : goal.invariant-loop-t
invariant-loop-t l = record {
  in_range : All (λ x. x.0 < length l.numbers) l.t-iterator;
  below : AreBelowButLeft l.numbers l.rise l.most l.t-iterator l.fn.trans;
}
