use Rattle.std.proofs.Common.{Contains}
use Rattle.stg_redundant.specs.Watching.{IsInReach, HasNoneBesides}
use Rattle.stg_contract.proofs.WatchAdds.{IsFrom}
use Rattle.stg_redundant.proofs.Besides.{HasBesidesButLeft}
use Rattle.stg_redundant.proofs.watch.PlaceWatch.add_each.Given as goal

abbrev pub invariant-loop-p : goal.invariant-loop-p
invariant-loop-p l = record {
  kept : HasNoneBesides l.self l.fn.self;
  left : HasBesidesButLeft (IsInReach l.editor.now (Contains l.places) ⊥) (IsInReach l.editor.now (IsFrom l.places l.p-index) ⊥) l.fn.self l.self;
}
