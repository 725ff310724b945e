use Rattle.std.proofs.Common.{◌<◌, ◌≤◌, ℕ}
use Rattle.stg_redundant.specs.Watching.{IsLinkPlace}
use Rattle.stg_redundant.proofs.edited.has_new_link.Given as goal

abbrev pub invariant-loop-p : goal.invariant-loop-p
invariant-loop-p l = (q : ℕ) → l.first ≤ q → q < l.p → ¬ IsLinkPlace l.editor.now q
