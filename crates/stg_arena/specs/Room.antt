-- How much an arena can still take.
use Rattle.std.specs.Prelude.{◌≡◌, ◌≤◌, ◌+◌, ◌-◌, ℕ, length}
use Rattle.stg_arena.specs.ArenaView.{Layout}

-- how many places can still be made
abbrev pub spare_places : Layout → ℕ
spare_places l = l.rooms.places - length l.places

-- how many cells can still be made, besides the heads of these places
abbrev pub spare_cells : Layout → ℕ
spare_cells l = l.rooms.cells - length l.cells - spare_places l

-- there is room for so many new places, for so many cells besides their heads, and for the removal
-- of all places and transitions
pub record HasRoom (l : Layout) (places cells : ℕ) : Type 0 where
  pub places_fit : places ≤ spare_places l
  pub cells_fit : cells ≤ spare_cells l
  pub roomy : length l.cells + spare_places l ≤ l.rooms.cells
  pub removals_long : l.rooms.places + length l.trans ≤ l.rooms.removals

-- the same, with no less room
pub record HasMoreRoom (l l' : Layout) : Type 0 where
  pub same : l' ≡ record l { rooms = l'.rooms }
  pub removals : l.rooms.removals ≤ l'.rooms.removals
  pub places : spare_places l ≤ spare_places l'
  pub cells : spare_cells l ≤ spare_cells l'
