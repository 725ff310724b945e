use Rattle.std.proofs.Common.{◌≡◌, ◌⊎◌, ◌<◌, ℕ, true, All, length}
use Rattle.stg_contract.specs.inner.Watches.{HasNumber}
use Rattle.stg_redundant.specs.FlaggedDummies.{IsFlagged, FlagsMore}
use Rattle.stg_redundant.specs.inner.Tests.{is_same_dummy}
use Rattle.stg_redundant.proofs.dummy_watch.add_all_same.Given as goal

abbrev pub invariant-loop-u : goal.invariant-loop-u
invariant-loop-u l = record {
  kept : FlagsMore l.fn.watch l.watch;
  below : All (λ (x : ℕ × ℕ). x.0 < length l.watch) l.u-iterator;
  added : (u : ℕ) → HasNumber u l.fn.trans → HasNumber u l.u-iterator ⊎ (is_same_dummy l.editor.now l.v u ≡ true → IsFlagged l.watch u);
}
