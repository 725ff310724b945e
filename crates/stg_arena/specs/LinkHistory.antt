-- Which cells were next to each other at each moment.
use Rattle.std.specs.Prelude.{◌≡◌, ◌<◌, ◌≤◌, ℕ, false}
use Rattle.stg_arena.specs.Ring.{Side, IsNext}

-- the moment until which each cell is live, how many cells there were at each moment, and the
-- moment now
pub record Times : Type 0 where
  pub until : ℕ → ℕ
  pub count : ℕ → ℕ
  pub depth : ℕ

-- one moment of the arena, as one side sees it: its own rings, those of the other side, how many
-- cells there are,
-- the moment until which each cell is live, and the moment itself
pub record Frame : Type 0 where
  pub own : Side
  pub other : Side
  pub size : ℕ
  pub until : ℕ → ℕ
  pub now : ℕ

-- the moment s, as the own side sees it
abbrev pub frame_at : Side → Side → Times → ℕ → Frame
frame_at own other t s = record
    { own = own; other = other; size = t.count s; until = t.until; now = s }

-- the cell is live, and takes part in the rings of the side of which `far` is the other one
pub record IsOn (far : Side) (f : Frame) (e : ℕ) : Type 0 where
  pub below : e < f.size
  pub live : f.now ≤ f.until e
  pub part : far.head e ≡ false

-- c and d are next to each other in a ring of the own side, at the moment s
abbrev pub IsNextAt : Side → Side → Times → ℕ → ℕ → ℕ → Type 0
IsNextAt own other t s c d = IsNext own (t.count s) (IsOn other (frame_at own other t s)) c d
