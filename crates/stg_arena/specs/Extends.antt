-- An arena after edits: nothing of what stood before is lost.
use Rattle.std.specs.Prelude.{◌≡◌, ◌<◌, ◌≤◌, ◌++◌, ℕ, nat_le, List, length}
use Rattle.stg_arena.specs.declared.end.End.{End}
use Rattle.stg_arena.specs.declared.cell.Cell.{Cell}
use Rattle.stg_arena.specs.ArenaView.{Layout, none, spot_at, cell_at, end_of, removed_at, removal_at}

-- a cell of a place from n on, whose ends live at l
pub record IsNewCell (n : ℕ) (l : Layout) (a : Cell) : Type 0 where
  pub above : n ≤ a.place
  pub is_arc : a.place < none
  pub live : (b : End) → length l.removals ≤ removed_at l b (end_of b a)

-- l' came from l: cells of places from n on are put behind the others, nodes were removed, and
-- what was live at a moment before is the same
pub record IsExtended (n : ℕ) (l l' : Layout) : Type 0 where
  pub more : List Cell
  pub cells : l'.cells ≡ l.cells ++ more
  pub new_cells : (c : ℕ) → c < length more → IsNewCell n l (cell_at more c)
  pub places : length l.places ≤ length l'.places
  pub trans : length l'.trans ≡ length l.trans
  pub tokens : (p : ℕ) → p < n → (spot_at l'.places p).tokens ≡ (spot_at l.places p).tokens
  pub live : (s : ℕ) (b : End) (k : ℕ) → s ≤ length l.removals
      → nat_le s (removed_at l' b k) ≡ nat_le s (removed_at l b k)
  pub longer : length l.removals ≤ length l'.removals
  pub removed : (s : ℕ) → s < length l.removals → removal_at l' s ≡ removal_at l s
  pub rooms : l'.rooms ≡ l.rooms

-- what was removed from the moment m on was removed when all cells were there
pub record HasAllCells (m : ℕ) (l : Layout) : Type 0 where
  pub cells : (s : ℕ) → m ≤ s → s < length l.removals → (removal_at l s).cells ≡ length l.cells

-- on the way back from l to the moment m
pub record IsRevivedTo (m : ℕ) (l l' : Layout) : Type 0 where
  pub later : (n : ℕ) → IsExtended n l' l
  pub cells : l'.cells ≡ l.cells
  pub places : length l'.places ≡ length l.places
  pub reached : m ≤ length l'.removals
  pub all : HasAllCells m l'
