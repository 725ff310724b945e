-- Cells that are taken off again, from behind.
use Rattle.std.specs.Prelude.{◌≡◌, ◌<◌, ◌≤◌, ◌⊎◌, ◌+◌, ℕ, length}
use Rattle.stg_arena.specs.declared.end.End.{End}
use Rattle.stg_arena.specs.ArenaView.{Layout, none, cell_at, end_of, removed_at, removal_at}
use Rattle.stg_arena.specs.Extends.{IsExtended}

-- the cells from `cells` on are those of the places from n on, all of which live, and were put
-- there since anything was removed
pub record CanTruncate (n cells : ℕ) (l : Layout) : Type 0 where
  pub kept : cells ≤ length l.cells
  pub few : n ≤ length l.places
  pub older : (c : ℕ) → c < cells
      → ((cell_at l.cells c).place ≡ none) ⊎ ((cell_at l.cells c).place < n)
  pub newer : (c : ℕ) → cells ≤ c → c < length l.cells
      → (n ≤ (cell_at l.cells c).place) × ((cell_at l.cells c).place < none)
  pub live : (c : ℕ) (b : End) → cells ≤ c → c < length l.cells
      → removed_at l b (end_of b (cell_at l.cells c)) ≡ none
  pub late : (s : ℕ) → s < length l.removals → (removal_at l s).cells ≤ cells

-- while cells are taken off
pub record IsTruncated (n cells : ℕ) (l l' : Layout) : Type 0 where
  pub later : IsExtended n l' l
  pub can : CanTruncate n cells l'
  pub removals : l'.removals ≡ l.removals
  pub slim : length l.places + length l'.cells ≤ length l.cells + length l'.places
