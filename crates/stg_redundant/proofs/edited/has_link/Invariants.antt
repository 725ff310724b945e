use Rattle.std.proofs.Common.{◌<◌, ℕ, length, get_or}
use Rattle.stg_redundant.specs.Watching.{IsLinkPlace}
use Rattle.stg_redundant.proofs.edited.has_link.Given as goal

abbrev pub invariant-loop-p : goal.invariant-loop-p
invariant-loop-p l = (k : ℕ) (d : ℕ) → k < l.p-index → k < length l.places → ¬ IsLinkPlace l.editor.now (get_or l.places k d)
