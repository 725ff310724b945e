-- An arena that gets new places with their cells, while nothing is removed.
use Rattle.std.specs.Prelude.{◌≡◌, ◌≢◌, ◌<◌, ◌≤◌, ℕ, length}
use Rattle.stg_arena.specs.declared.end.End.{End}
use Rattle.stg_arena.specs.ArenaView.{Layout, cell_at, removed_at}
use Rattle.stg_arena.specs.Extends.{IsExtended}

-- cells of places from n on are put behind the others, none of them with t
pub record IsAppended (t n : ℕ) (l l' : Layout) : Type 0 where
  pub later : IsExtended n l l'
  pub removals : l'.removals ≡ l.removals
  pub same : (b : End) (k : ℕ) → removed_at l' b k ≡ removed_at l b k
  pub others : (c : ℕ) → length l.cells ≤ c → c < length l'.cells → (cell_at l'.cells c).trans ≢ t
