-- What is left of an editor that is closed.
use Rattle.std.specs.Prelude.{ℕ}

-- the edits that stand, and the number of those that were undone
pub record Worn : Type 0 where
  pub edits : ℕ
  pub undone : ℕ
