use Rattle.std.proofs.Common.{◌⊎◌, ℕ, Contains}
use Rattle.stg_contract.specs.WatchedDummies.{WeighsDummies, IsWeighed}
use Rattle.stg_contract.proofs.WatchAdds.{IsFrom}
use Rattle.stg_contract.proofs.watch.DummyWatch.add_each.Given as goal

abbrev pub invariant-loop-u : goal.invariant-loop-u
invariant-loop-u l = record {
  kept : WeighsDummies l.editor.now l.fn.self l.self;
  weighed : (v : ℕ) → Contains l.trans v → IsFrom l.trans l.u-index v ⊎ IsWeighed l.editor.now l.self v;
}
