-- The arcs of two places are merged into those of a new one.
use Rattle.std.specs.Prelude.{◌^◌, ◌≡◌, ◌≢◌, ◌<◌, ◌≤◌, ◌+◌, ◌-◌, ℕ, ◌==◌, length, if◌then◌else◌}
use Rattle.stg_arena.specs.declared.end.Way.{Way}
use Rattle.stg_arena.specs.declared.end.End.TheVariants.{Place, Trans}
use Rattle.stg_arena.specs.declared.end.Way.TheVariants.{Take, Give}
use Rattle.stg_arena.specs.LinkHistory.{IsNextAt}
use Rattle.stg_arena.specs.ArenaView.{Layout, none, cell_at, side, removed_at, times_of, count_of, IsPastAll, IsArena}
use Rattle.stg_arena.specs.RingWalk.{cell_weight, IsWalking}
use Rattle.stg_arena.specs.Incidence.{weight}
use Rattle.stg_arena.specs.Appends.{IsAppended}
use Rattle.stg_edit.specs.inner.DraftAt.{weight_at}
use Rattle.stg_edit.specs.Walks.{arcs_below}

-- the transition at a cell of a place, or `none` at the head
abbrev pub far : Layout → ℕ → ℕ
far l x = (cell_at l.cells x).trans

-- the weight at a cell, where it is an arc of the transition u
abbrev pub share_at : Layout → Way → ℕ → ℕ → ℕ
share_at l way x u = if far l x == u then cell_weight way (cell_at l.cells x) else 0

-- the walk goes on from x to y where it stands at the transition u, and else stays
pub record IsStep (l : Layout) (u x y : ℕ) : Type 0 where
  pub moved : far l x ≡ u
      → IsNextAt (side l.cells Place) (side l.cells Trans) (times_of l) (length l.removals) x y
  pub stayed : far l x ≢ u → y ≡ x

-- from l to l' the place n gets the weights w at u, or nothing where u is t
pub record IsPut (l l' : Layout) (t n u : ℕ) (w : Way → ℕ) : Type 0 where
  pub others : (way : Way) (r v : ℕ) → r ≢ n → weight l'.cells way r v ≡ weight l.cells way r v
  pub mine : (way : Way) (v : ℕ) → v ≢ u → weight l'.cells way n v ≡ weight l.cells way n v
  pub here : (way : Way) → weight l'.cells way n u ≡ (if u == t then 0 else w way)
  pub same : (v : ℕ) → removed_at l' Trans v ≡ removed_at l Trans v
  pub walking : (k z : ℕ) → IsWalking l Place k z → IsWalking l' Place k z
  pub ends : (k z : ℕ) → IsWalking l Place k z → far l' z ≡ far l z
  pub past : IsPastAll l' n (u + 1)

-- when these weights at u may be put at the last place, or nothing where u is t or the weights are
-- 0
pub record IsPutAllowed (l : Layout) (t u weights : ℕ) : Type 0 where
  pub arena : IsArena l
  pub place : 0 < length l.places
  pub live_place : removed_at l Place (length l.places - 1) ≡ none
  pub trans : u < count_of l Trans
  pub live_trans : removed_at l Trans u ≡ none
  pub after : IsPastAll l (length l.places - 1) u
  pub room : u ≢ t → 0 < weights → length l.cells < l.rooms.cells

-- the weight between v and the place that stands for p and q once t is contracted
abbrev pub merged_weight : Layout → ℕ → ℕ → ℕ → Way → ℕ → ℕ
merged_weight l t p q way v = if v == t then 0 else weight_at l (length l.removals) way v p
    + weight_at l (length l.removals) way v q

-- how many arcs that place has with the transitions below v
abbrev pub merged_arcs : Layout → ℕ → ℕ → ℕ → ℕ → ℕ
merged_arcs l t p q v = arcs_below (merged_weight l t p q Take) (merged_weight l t p q Give) v

-- nothing changes but the cells
pub record KeepsAllButCells (l l' : Layout) : Type 0 where
  pub places : l'.places ≡ l.places
  pub trans : l'.trans ≡ l.trans
  pub removals : l'.removals ≡ l.removals
  pub rooms : l'.rooms ≡ l.rooms

-- the last place is new, and there is room for its arcs
pub record CanMerge (l : Layout) (p q t : ℕ) : Type 0 where
  pub arena : IsArena l
  pub last : 0 < length l.places
  pub live_last : removed_at l Place (length l.places - 1) ≡ none
  pub first : p < length l.places - 1
  pub second : q < length l.places - 1
  pub live_first : removed_at l Place p ≡ none
  pub live_second : removed_at l Place q ≡ none
  pub no_arcs : (c : ℕ) → c < length l.cells → (cell_at l.cells c).place ≡ length l.places - 1
      → (cell_at l.cells c).trans ≡ none
  pub room : length l.cells + merged_arcs l t p q (length l.trans) ≤ l.rooms.cells
  pub sums : (way : Way) (v : ℕ) → v < length l.trans → removed_at l Trans v ≡ none
      → weight l.cells way p v + weight l.cells way q v < 2 ^ 32

-- the place n has the sums of the weights of p and q, but nothing at t, and all other places have
-- the same
pub record IsMerged (l l' : Layout) (p q t n : ℕ) : Type 0 where
  pub arena : IsArena l'
  pub kept : KeepsAllButCells l l'
  pub others : (way : Way) (r v : ℕ) → r ≢ n → weight l'.cells way r v ≡ weight l.cells way r v
  pub sums : (way : Way) (v : ℕ) → v < none → removed_at l Trans v ≡ none
      → weight l'.cells way n v
      ≡ (if v == t then 0 else weight l.cells way p v + weight l.cells way q v)
  pub appended : IsAppended t n l l'
  pub few : length l'.cells ≤ length l.cells + merged_arcs l t p q (length l.trans)
