-- What a walk through a ring has still to give.
use Rattle.std.specs.Prelude.{◌≡◌, ◌-◌, ◌&&◌, ◌==◌, ℕ, zero, suc, Bool, nat_le, nat_lt, List, [], ◌∷◌, length, if◌then◌else◌}
use Rattle.stg_arena.specs.declared.end.End.{End}
use Rattle.stg_arena.specs.declared.end.Way.{Way}
use Rattle.stg_arena.specs.declared.end.Way.TheVariants.{Take, Give}
use Rattle.stg_arena.specs.Ends.{other}
use Rattle.stg_arena.specs.declared.cell.Cell.{Cell}
use Rattle.stg_arena.specs.LinkHistory.{IsNextAt, IsOn, frame_at}
use Rattle.stg_arena.specs.ArenaView.{Layout, none, cell_at, end_of, side, until_of, times_of}

-- the items of the cells that are on, of m cells from x on
abbrev pub items_from : (ℕ → Bool) → (ℕ → ℕ × ℕ) → ℕ → ℕ → List (ℕ × ℕ)
items_from on item x zero = []
items_from on item x (suc m) = if on x then item x ∷ items_from on item (suc x) m else items_from on
    item (suc x) m

-- the weight of a cell out of its place, or into it
abbrev pub cell_weight : Way → Cell → ℕ
cell_weight Take a = a.take
cell_weight Give a = a.give

-- the cell is a live one of k, with a weight of this kind
abbrev pub is_item : Layout → End → ℕ → Way → ℕ → Bool
is_item l b k way c = (end_of b (cell_at l.cells c) == k)
    && (nat_le (length l.removals) (until_of l c) && nat_lt 0 (cell_weight way (cell_at l.cells c)))

-- the other end and the weight
abbrev pub item_of : Layout → End → Way → ℕ → ℕ × ℕ
item_of l b way c = (end_of (other b) (cell_at l.cells c), cell_weight way (cell_at l.cells c))

-- the items of the cells from x on
abbrev pub items_left_from : Layout → End → ℕ → Way → ℕ → List (ℕ × ℕ)
items_left_from l b k way x = items_from (is_item l b k way) (item_of l b way) x
    (length l.cells - x)

-- what is left where the walk is at the cell x, or at the end
abbrev pub items_left : Layout → End → ℕ → Way → ℕ → List (ℕ × ℕ)
items_left l b k way x = if end_of (other b) (cell_at l.cells x) == none then [] else
    items_left_from l b k way x

-- the cell is live
abbrev pub IsLive : Layout → End → ℕ → Type 0
IsLive l b c = IsOn (side l.cells (other b))
    (frame_at (side l.cells b) (side l.cells (other b)) (times_of l) (length l.removals)) c

-- d is the next cell of c in its ring, now
abbrev pub IsNextCell : Layout → End → ℕ → ℕ → Type 0
IsNextCell l b c d = IsNextAt (side l.cells b) (side l.cells (other b)) (times_of l)
    (length l.removals) c d

-- the walk through the ring of k stands at the cell x
pub record IsWalking (l : Layout) (b : End) (k x : ℕ) : Type 0 where
  pub live : IsLive l b x
  pub key : end_of b (cell_at l.cells x) ≡ k

-- while cells without a weight of this kind are passed over
pub record IsPassing (l : Layout) (b : End) (k : ℕ) (way : Way) (from at far : ℕ) : Type 0 where
  pub walking : IsWalking l b k at
  pub here : far ≡ end_of (other b) (cell_at l.cells at)
  pub same : items_left l b k way at ≡ items_left l b k way from
