-- Cells on a side of the arena: those with one key are linked in a ring, in ascending order, from
-- their head.
use Rattle.std.specs.Prelude.{◌≡◌, ◌≢◌, ◌<◌, ℕ, Bool, if◌then◌else◌}

-- what a side of the arena knows of a cell: its key, and whether it is the head of its ring
pub record Side : Type 0 where
  pub key : ℕ → ℕ
  pub head : ℕ → Bool

-- where the way to the cell d ends: the way to a head ends past all n cells
abbrev pub stop : Side → ℕ → ℕ → ℕ
stop s n d = if s.head d then n else d

-- of the cells below n that are on, d is the next of c
pub record IsNext (s : Side) (n : ℕ) (on : ℕ → Type 0) (c d : ℕ) : Type 0 where
  pub from : on c
  pub to : on d
  pub from_below : c < n
  pub to_below : d < n
  pub same : s.key c ≡ s.key d
  pub order : c < stop s n d
  pub gap : (e : ℕ) → c < e → e < stop s n d → on e → s.key e ≢ s.key c
