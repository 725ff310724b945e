use Rattle.stg_redundant.specs.Watching.{IsNewPlace, IsInReach, HasNoneBesides}
use Rattle.stg_redundant.proofs.Besides.{HasBesidesButLeft}
use Rattle.stg_redundant.proofs.watch.PlaceWatch.add_new.Given as goal

abbrev pub invariant-loop-p : goal.invariant-loop-p
invariant-loop-p l = record {
  kept : HasNoneBesides l.self l.fn.self;
  left : HasBesidesButLeft (IsInReach l.editor.now (IsNewPlace l.first) ⊥) (IsInReach l.editor.now (IsNewPlace l.p) ⊥) l.fn.self l.self;
}
