-- What contracts see of an arena: its cells in ascending order, the places and transitions that
-- they join, and the order in which these were removed.
use Rattle.std.specs.Prelude.{◌≡◌, ◌≢◌, ◌<◌, ◌≤◌, ◌-◌, ℕ, ◌==◌, length, ◌⊎◌, ◌++◌, ◌∷◌, [], min, List, slice_index_or}
use Rattle.stg_arena.specs.declared.end.End.{End}
use Rattle.stg_arena.specs.declared.end.End.TheVariants.{Place, Trans}
use Rattle.stg_arena.specs.Ends.{other}
use Rattle.stg_arena.specs.declared.cell.Cell.{Cell}
use Rattle.stg_arena.specs.declared.cell.Spot.{Spot}
use Rattle.stg_arena.specs.declared.cell.Removal.{Removal}
use Rattle.stg_arena.specs.declared.cell.Rooms.{Rooms}
use Rattle.stg_arena.specs.Ring.{Side}
use Rattle.stg_arena.specs.LinkHistory.{Times}

-- the cells, the places, the moment of removal of each transition, the removals in order, and what
-- the lists can hold
pub record Layout : Type 0 where
  pub cells : List Cell
  pub places : List Spot
  pub trans : List ℕ
  pub removals : List Removal
  pub rooms : Rooms

-- the number of no place and no transition, and the moment that never comes
abbrev pub none : ℕ
none = 4294967295

-- what stands past all cells
abbrev pub no_cell : Cell
no_cell = record { place = none; trans = none; take = 0; give = 0 }

-- the cell of that number
abbrev pub cell_at : List Cell → ℕ → Cell
cell_at cells c = slice_index_or cells c no_cell

-- the last cell
abbrev pub end_cell : Layout → Cell
end_cell l = cell_at l.cells (length l.cells - 1)

-- the end of a cell: its place, or its transition
abbrev pub end_of : End → Cell → ℕ
end_of Place a = a.place
end_of Trans a = a.trans

-- the rings of the places, or those of the transitions
abbrev pub side : List Cell → End → Side
side cells b = record {
  key = λ c. end_of b (cell_at cells c);
  head = λ c. end_of (other b) (cell_at cells c) == none;
}

-- how many places there are, or transitions, live or not
abbrev pub count_of : Layout → End → ℕ
count_of l Place = length l.places
count_of l Trans = length l.trans

-- what was removed at the moment s; past all these stands the present
abbrev pub removal_at : Layout → ℕ → Removal
removal_at l s = slice_index_or l.removals s
    (record { end = Place; node = none; cells = length l.cells })

-- of two cells of one ring the later one is no head, and its other end is greater
pub record IsAfter (b : End) (x y : Cell) : Type 0 where
  pub no_head : end_of (other b) y ≢ none
  pub up : (end_of (other b) x ≡ none) ⊎ (end_of (other b) x < end_of (other b) y)

-- the head of the ring of a place that would come next
abbrev pub head_cell : Layout → Cell
head_cell l = record { place = length l.places; trans = none; take = 0; give = 0 }

-- all cells of the place p but its head have transitions below t
pub record IsPastAll (l : Layout) (p t : ℕ) : Type 0 where
  pub past : (c : ℕ) → c < length l.cells → (cell_at l.cells c).place ≡ p
      → ((cell_at l.cells c).trans ≡ none) ⊎ ((cell_at l.cells c).trans < t)

-- what stands past all places
abbrev pub no_spot : Spot
no_spot = record { head = 0; tokens = 0; removed_at = none }

-- the place of that number
abbrev pub spot_at : List Spot → ℕ → Spot
spot_at places p = slice_index_or places p no_spot

-- the moment when a place, or a transition, was removed
abbrev pub removed_at : Layout → End → ℕ → ℕ
removed_at l Place p = (spot_at l.places p).removed_at
removed_at l Trans t = slice_index_or l.trans t none

-- the head of the ring of a place, or of a transition
abbrev pub head_of : Layout → End → ℕ → ℕ
head_of l Place p = (spot_at l.places p).head
head_of l Trans t = t

-- a cell is live as long as its place and its transition
abbrev pub until_of : Layout → ℕ → ℕ
until_of l c = min (removed_at l Place (cell_at l.cells c).place)
    (removed_at l Trans (cell_at l.cells c).trans)

-- until when each cell is live, how many cells there were at each moment, and the moment now
abbrev pub times_of : Layout → Times
times_of l = record {
  until = until_of l;
  count = λ s. (removal_at l s).cells;
  depth = length l.removals;
}

-- the head of the ring of a place, or of a transition
pub record IsHead (l : Layout) (b : End) (k : ℕ) : Type 0 where
  pub below : head_of l b k < length l.cells
  pub far : end_of (other b) (cell_at l.cells (head_of l b k)) ≡ none
  pub key : end_of b (cell_at l.cells (head_of l b k)) ≡ k

-- how the cells lie
pub record IsLaid (l : Layout) : Type 0 where
  pub ascending : (b : End) (c d : ℕ) → c < d → d < length l.cells
      → end_of b (cell_at l.cells c) ≡ end_of b (cell_at l.cells d)
      → IsAfter b (cell_at l.cells c) (cell_at l.cells d)
  pub bounded : (b : End) (c : ℕ) → c < length l.cells
      → (end_of b (cell_at l.cells c) ≡ none) ⊎ (end_of b (cell_at l.cells c) < count_of l b)
  pub heads : (b : End) (k : ℕ) → k < count_of l b → IsHead l b k
  pub small : length l.cells < none
  pub cells : length l.cells ≤ l.rooms.cells
  pub most_cells : l.rooms.cells < none
  pub places : length l.places ≤ l.rooms.places
  pub most_places : l.rooms.places < none
  pub sizes : (b : End) → count_of l b ≤ none

-- the moments of removals and the list of removals agree
pub record IsTimed (l : Layout) : Type 0 where
  pub in_range : (s : ℕ) → s < length l.removals
      → (removal_at l s).node < count_of l (removal_at l s).end
  pub recorded : (s : ℕ) → s < length l.removals
      → removed_at l (removal_at l s).end (removal_at l s).node ≡ s
  pub node : (b : End) (k : ℕ) → removed_at l b k < length l.removals
      → (removal_at l (removed_at l b k)).node ≡ k
  pub kind : (b : End) (k : ℕ) → removed_at l b k < length l.removals
      → (removal_at l (removed_at l b k)).end ≡ b
  pub alive : (b : End) (k : ℕ) → length l.removals ≤ removed_at l b k → removed_at l b k ≡ none
  pub cells : (s : ℕ) → s < length l.removals → (removal_at l s).cells ≤ length l.cells
  pub cells_up : (s r : ℕ) → s ≤ r → r < length l.removals
      → (removal_at l s).cells ≤ (removal_at l r).cells
  pub room : length l.removals ≤ l.rooms.removals
  pub small : l.rooms.removals < none

-- the last removal
abbrev pub last_removal : Layout → Removal
last_removal l = removal_at l (length l.removals - 1)

-- the removal of the node k that would come now
abbrev pub removal_now : Layout → End → ℕ → Removal
removal_now l b k = record { end = b; node = k; cells = length l.cells }

-- what is true of each arena
pub record IsArena (l : Layout) : Type 0 where
  pub laid : IsLaid l
  pub timed : IsTimed l

-- from l to l' the node k was removed
pub record IsRemoved (b : End) (k : ℕ) (l l' : Layout) : Type 0 where
  pub cells : l'.cells ≡ l.cells
  pub removals : l'.removals
      ≡ l.removals ++ record { end = b; node = k; cells = length l.cells } ∷ []
  pub rooms : l'.rooms ≡ l.rooms
  pub was : removed_at l b k ≡ none
  pub here : removed_at l' b k ≡ length l.removals
  pub others : (j : ℕ) → j ≢ k → removed_at l' b j ≡ removed_at l b j
  pub far : (j : ℕ) → removed_at l' (other b) j ≡ removed_at l (other b) j
  pub tokens : (p : ℕ) → (spot_at l'.places p).tokens ≡ (spot_at l.places p).tokens
  pub as_many : (c : End) → count_of l' c ≡ count_of l c
  pub heads : (c : End) (j : ℕ) → head_of l' c j ≡ head_of l c j
  pub in_range : k < count_of l b

-- from l to l' the cell a is put behind the others
pub record IsPushed (a : Cell) (l l' : Layout) : Type 0 where
  pub cells : l'.cells ≡ l.cells ++ a ∷ []
  pub removals : l'.removals ≡ l.removals
  pub rooms : l'.rooms ≡ l.rooms
  pub same : (b : End) (k : ℕ) → removed_at l' b k ≡ removed_at l b k
  pub live : (b : End) → removed_at l b (end_of b a) ≡ none
  pub after : (b : End) (c : ℕ) → c < length l.cells → end_of b (cell_at l.cells c) ≡ end_of b a
      → IsAfter b (cell_at l.cells c) a

-- a stands between a place and a transition that are there
pub record IsPushedCell (a : Cell) (l l' : Layout) : Type 0 where
  pub pushed : IsPushed a l l'
  pub places : l'.places ≡ l.places
  pub trans : l'.trans ≡ l.trans
  pub inside : (b : End) → end_of b a < count_of l b

-- a is the head of the ring of the new place s
pub record IsPushedPlace (s : Spot) (l l' : Layout) : Type 0 where
  pub pushed : IsPushed (head_cell l) l l'
  pub places : l'.places ≡ l.places ++ s ∷ []
  pub trans : l'.trans ≡ l.trans
  pub head : s.head ≡ length l.cells
  pub removed_at : s.removed_at ≡ none

-- when a cell of t may be put behind those of the last place
pub record IsCellAllowed (l : Layout) (t : ℕ) : Type 0 where
  pub place : 0 < length l.places
  pub live_place : removed_at l Place (length l.places - 1) ≡ none
  pub trans : t < count_of l Trans
  pub live_trans : removed_at l Trans t ≡ none
  pub after : IsPastAll l (length l.places - 1) t
  pub room : length l.cells < l.rooms.cells

-- the live place that would come next, with its head
abbrev pub new_spot : Layout → ℕ → Spot
new_spot l tokens = record { head = length l.cells; tokens = tokens; removed_at = none }

-- a cell of the last place, with these weights
abbrev pub new_cell : Layout → ℕ → ℕ → ℕ → Cell
new_cell l t take give = record { place = length l.places - 1; trans = t; take = take; give = give }
