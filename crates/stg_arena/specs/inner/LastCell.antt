-- What the last cell is, when it is taken off.
use Rattle.std.specs.Prelude.{◌≡◌, ◌<◌, ◌⊎◌, ◌-◌, ◌++◌, ◌∷◌, [], ℕ, length, ◌+◌}
use Rattle.stg_arena.specs.declared.end.End.{End}
use Rattle.stg_arena.specs.declared.end.End.TheVariants.{Place}
use Rattle.stg_arena.specs.declared.cell.Cell.{Cell}
use Rattle.stg_arena.specs.declared.cell.Spot.{Spot}
use Rattle.stg_arena.specs.ArenaView.{Layout, none, cell_at, end_of, removed_at, count_of, head_of, removal_at, IsPushed, IsPushedCell}

-- the last cell stands between a place and a transition that live, and was put there since
-- anything was removed
pub record EndsInCell (l : Layout) : Type 0 where
  pub some : 0 < length l.cells
  pub inside : (b : End) → end_of b (cell_at l.cells (length l.cells - 1)) < count_of l b
  pub live : (b : End) → removed_at l b (end_of b (cell_at l.cells (length l.cells - 1))) ≡ none
  pub late : (s : ℕ) → s < length l.removals → (removal_at l s).cells < length l.cells

-- the last cell is the head of the last place, which lives, and was put there since anything was
-- removed
pub record EndsInPlace (l : Layout) : Type 0 where
  pub some : 0 < length l.places
  pub last : head_of l Place (length l.places - 1) + 1 ≡ length l.cells
  pub live : removed_at l Place (length l.places - 1) ≡ none
  pub late : (s : ℕ) → s < length l.removals → (removal_at l s).cells < length l.cells

-- from l to l' there is one more place s, and its head a
pub record IsPushedHead (a : Cell) (s : Spot) (l l' : Layout) : Type 0 where
  pub pushed : IsPushed a l l'
  pub place : a.place ≡ length l.places
  pub head : a.trans ≡ none
  pub places : l'.places ≡ l.places ++ s ∷ []
  pub trans : l'.trans ≡ l.trans

-- from l to l' there is one more cell
abbrev pub IsOneMore : Layout → Layout → Type 0
IsOneMore l l' = ((a : Cell) × IsPushedCell a l l')
    ⊎ ((a : Cell) × (s : Spot) × IsPushedHead a s l l')
