use Rattle.std.proofs.Common.{◌⊎◌, ℕ, Contains}
use Rattle.stg_redundant.specs.FlaggedDummies.{FlagsMore, IsFlaggedWithSame}
use Rattle.stg_contract.proofs.WatchAdds.{IsFrom}
use Rattle.stg_redundant.proofs.dummy_watch.RedundantWatch.add_each.Given as goal

abbrev pub invariant-loop-v : goal.invariant-loop-v
invariant-loop-v l = record {
  kept : FlagsMore l.fn.self l.self;
  added : (v : ℕ) → Contains l.trans v → IsFrom l.trans l.v-index v ⊎ IsFlaggedWithSame l.editor.now l.self v;
}
