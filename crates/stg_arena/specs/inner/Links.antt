-- The links of the cells, on one side, as an array. Each cell's links are right as of the moment
-- of its removal, or now.
use Rattle.std.specs.Prelude.{ℕ, ◌≡◌, ◌<◌, ◌≤◌, true, false, List, length, slice_index_or, ◌≢◌}
use Rattle.stg_arena.specs.declared.end.End.{End}
use Rattle.stg_arena.specs.declared.end.End.TheVariants.{Place, Trans}
use Rattle.stg_arena.specs.declared.links.Link.{Link}
use Rattle.stg_arena.specs.Ring.{Side, IsNext}
use Rattle.stg_arena.specs.LinkHistory.{IsOn, Times, frame_at, IsNextAt}

-- the links of a cell that is alone in its ring
abbrev pub lone_link : ℕ → Link
lone_link c = record { prev = c; next = c }

-- what stands past all links
abbrev pub no_link : Link
no_link = record { prev = 0; next = 0 }

-- the cell after c
abbrev pub next_at : List Link → ℕ → ℕ
next_at links c = (slice_index_or links c no_link).next

-- the cell before c
abbrev pub prev_at : List Link → ℕ → ℕ
prev_at links c = (slice_index_or links c no_link).prev

-- the links of the places' rings, or those of the transitions'
abbrev pub links_of : End → List Link → List Link → List Link
links_of Place by_place by_trans = by_place
links_of Trans by_place by_trans = by_trans

-- a head is the least cell of its key
pub record HasHeads (s : Side) (n : ℕ) : Type 0 where
  pub least : (d e : ℕ) → d < n → e < n → s.head d ≡ true → s.key d ≡ s.key e → d ≤ e

-- each cell that is on knows the next one and the one before
pub record IsLinked (s : Side) (n : ℕ) (on : ℕ → Type 0) (next prev : ℕ → ℕ) : Type 0 where
  pub forward : (c : ℕ) → c < n → on c → IsNext s n on c (next c)
  pub back : (c : ℕ) → c < n → on c → IsNext s n on (prev c) c

-- the functions after the cells x and y have got a new value
pub record IsBut (f g : ℕ → ℕ) (x v : ℕ) : Type 0 where
  pub here : g x ≡ v
  pub others : (e : ℕ) → e ≢ x → g e ≡ f e

-- the cells before and after x are next to each other
abbrev pub IsUnlinked : List Link → List Link → ℕ → Type 0
IsUnlinked old new x = IsBut (next_at old) (next_at new) (prev_at old x) (next_at old x)
    × IsBut (prev_at old) (prev_at new) (next_at old x) (prev_at old x)

-- x stands between its two cells again
abbrev pub IsRelinked : List Link → List Link → ℕ → Type 0
IsRelinked old new x = IsBut (next_at old) (next_at new) (prev_at old x) x
    × IsBut (prev_at old) (prev_at new) (next_at old x) x

-- the live cells are linked in their rings, and each other cell's links are right as of the moment
-- of its removal
pub record IsHeld (own other : Side) (t : Times) (links : List Link) : Type 0 where
  pub rings : IsLinked own (t.count t.depth) (IsOn other (frame_at own other t t.depth))
      (next_at links) (prev_at links)
  pub forward : (c s : ℕ) → c < t.count t.depth → other.head c ≡ false → s < t.depth → t.until c ≡ s
      → IsNextAt own other t s c (next_at links c)
  pub back : (c s : ℕ) → c < t.count t.depth → other.head c ≡ false → s < t.depth → t.until c ≡ s
      → IsNextAt own other t s (prev_at links c) c
  pub long : length links ≡ t.count t.depth

-- the links of the cells below n are the same
pub record IsSameBelow (n : ℕ) (old new : List Link) : Type 0 where
  pub next : (c : ℕ) → c < n → next_at new c ≡ next_at old c
  pub prev : (c : ℕ) → c < n → prev_at new c ≡ prev_at old c
