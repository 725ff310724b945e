-- The places round a transition are removed.
use Rattle.std.specs.Prelude.{◌≡◌, ◌≢◌, ◌<◌, ◌≤◌, ◌⊎◌, ◌+◌, ℕ, length}
use Rattle.stg_arena.specs.declared.end.End.TheVariants.{Place, Trans}
use Rattle.stg_arena.specs.declared.end.Way.TheVariants.{Take, Give}
use Rattle.stg_arena.specs.ArenaView.{Layout, none, cell_at, removed_at, IsRemoved, IsArena}
use Rattle.stg_arena.specs.RingWalk.{cell_weight}
use Rattle.stg_arena.specs.Incidence.{weight}
use Rattle.stg_arena.specs.Extends.{IsExtended, HasAllCells}

-- the weights at a cell
abbrev pub weights_at : Layout → ℕ → ℕ
weights_at l x = cell_weight Take (cell_at l.cells x) + cell_weight Give (cell_at l.cells x)

-- the weights between p and t
abbrev pub touch : Layout → ℕ → ℕ → ℕ
touch l t p = weight l.cells Take p t + weight l.cells Give p t

-- the place at the cell x was removed, if the cell has a weight
abbrev pub IsRemovedAtCell : ℕ → Layout → Layout → Type 0
IsRemovedAtCell x l l' = ((weights_at l x ≡ 0) × (l' ≡ l))
    ⊎ ((0 < weights_at l x) × IsRemoved Place (cell_at l.cells x).place l l')

-- nothing but places was removed
pub record IsFewer (l l' : Layout) : Type 0 where
  pub later : (n : ℕ) → IsExtended n l l'
  pub cells : l'.cells ≡ l.cells
  pub places : length l'.places ≡ length l.places
  pub trans : (k : ℕ) → removed_at l' Trans k ≡ removed_at l Trans k
  pub all : HasAllCells (length l.removals) l'

-- of the places below `end` all were removed that lived and have a weight with t, and nothing else
pub record ArePlacesRemoved (t end : ℕ) (l l' : Layout) : Type 0 where
  pub arena : IsArena l'
  pub fewer : IsFewer l l'
  pub removed : (p : ℕ) → p < end → p < length l.places → removed_at l Place p ≡ none
      → 0 < touch l t p → removed_at l' Place p < length l'.removals
  pub ahead : (p : ℕ) → end ≤ p → removed_at l' Place p ≡ removed_at l Place p
  pub untouched : (p : ℕ) → touch l t p ≡ 0 → removed_at l' Place p ≡ removed_at l Place p
  pub removed_before : (p : ℕ) → removed_at l Place p ≢ none
      → removed_at l' Place p ≡ removed_at l Place p
