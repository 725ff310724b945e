use Rattle.std.proofs.Common.{◌≤◌}
use Rattle.stg_redundant.specs.Watching.{IsLinkPlace, HasNoneBesides}
use Rattle.stg_redundant.proofs.Besides.{HasBesidesButLeft}
use Rattle.stg_redundant.proofs.watch.PlaceWatch.add_links.Given as goal

abbrev pub invariant-loop-p : goal.invariant-loop-p
invariant-loop-p l = record {
  kept : HasNoneBesides l.self l.fn.self;
  left : HasBesidesButLeft (IsLinkPlace l.editor.now) (λ q. (l.p ≤ q) × IsLinkPlace l.editor.now q) l.fn.self l.self;
}
