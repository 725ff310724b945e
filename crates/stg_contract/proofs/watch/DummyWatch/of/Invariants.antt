use Rattle.std.proofs.Common.{◌≡◌, ◌<◌, ℕ, length}
use Rattle.stg_net.specs.Graph.{IsDummy}
use Rattle.stg_contract.specs.WatchedDummies.{IsWatchedDummy, IsWeighed}
use Rattle.stg_contract.proofs.watch.DummyWatch.of.Given as goal

abbrev pub invariant-loop-t : goal.invariant-loop-t
invariant-loop-t l = record {
  long : length l.watch ≡ length l.editor.now.trans;
  weighed : (u : ℕ) → u < l.t → IsWeighed l.editor.now l.watch u;
  dummies : (u : ℕ) → IsWatchedDummy l.watch u → IsDummy l.editor.now u;
}
