use Rattle.std.proofs.Common.{◌≡◌, ◌<◌, ℕ, length}
use Rattle.stg_net.specs.Graph.{IsDummy}
use Rattle.stg_redundant.specs.FlaggedDummies.{IsFlagged}
use Rattle.stg_redundant.proofs.dummy_watch.RedundantWatch.of.Given as goal

abbrev pub invariant-loop-t : goal.invariant-loop-t
invariant-loop-t l = record {
  long : length l.watch ≡ length l.editor.now.trans;
  added : (u : ℕ) → u < l.t → IsDummy l.editor.now u → IsFlagged l.watch u;
  dummies : (u : ℕ) → IsFlagged l.watch u → IsDummy l.editor.now u;
}
