-- How many live places and arcs a draft has, and how many of them an edit takes off and adds.
use Rattle.std.specs.Prelude.{◌≡◌, ◌<◌, ◌≤◌, ◌+◌, ◌-◌, ◌||◌, ℕ, Bool, min, nat_lt, List, map, filter, length, sum_by}
use Rattle.std.specs.List.{range_with_len}
use Rattle.stg_net.specs.Graph.{Graph}
use Rattle.stg_arena.specs.declared.end.End.{End}
use Rattle.stg_arena.specs.declared.end.Way.{Way}
use Rattle.stg_arena.specs.declared.end.End.TheVariants.{Place, Trans}
use Rattle.stg_arena.specs.declared.end.Way.TheVariants.{Take, Give}
use Rattle.stg_arena.specs.Ends.{other}
use Rattle.stg_arena.specs.Incidence.{weight_along}
use Rattle.stg_arena.specs.ArenaView.{Layout, none, cell_at, count_of, removed_at}
use Rattle.stg_arena.specs.WalkItems.{weighted}
use Rattle.stg_edit.specs.declared.size.Size.{Size}
use Rattle.stg_edit.specs.Counted.{live_places, count_arcs}
use Rattle.stg_edit.specs.Editing.{Editing}

-- what a draft has
abbrev pub size_of : Graph → Size
size_of g = record { places = length (live_places g); arcs = count_arcs g }

-- the size of the draft now, and those of the drafts before each edit
pub record IsSized (e : Editing) (size : Size) (sizes : List Size) : Type 0 where
  pub now_sized : size ≡ size_of e.now
  pub past_sized : sizes ≡ map size_of e.past

-- both together
abbrev pub plus : Size → Size → Size
plus s more = record { places = s.places + more.places; arcs = s.arcs + more.arcs }

-- what is left
abbrev pub minus : Size → Size → Size
minus s less = record { places = s.places - less.places; arcs = s.arcs - less.arcs }

-- how many arcs of one kind there are at a live place, or at a live transition
abbrev pub arcs_of_node_along : Layout → End → Way → ℕ → ℕ
arcs_of_node_along l b way k = length (weighted (count_of l (other b)) (weight_along l b way k))

-- how many arcs there are at it
abbrev pub arcs_of_node : Layout → End → ℕ → ℕ
arcs_of_node l b k = arcs_of_node_along l b Take k + arcs_of_node_along l b Give k

-- how many arcs a cell stands for
abbrev pub cell_arcs : Layout → ℕ → ℕ
cell_arcs l x = min 1 (cell_at l.cells x).take + min 1 (cell_at l.cells x).give

-- how many places a node is
abbrev pub places_of_end : End → ℕ
places_of_end Place = 1
places_of_end Trans = 0

-- what is removed with a live place, or with a live transition
abbrev pub size_at : Layout → End → ℕ → Size
size_at l b k = record { places = places_of_end b; arcs = arcs_of_node l b k }

-- the places from that number on are live
abbrev pub AreLive : Layout → ℕ → Type 0
AreLive l first = (p : ℕ) → first ≤ p → p < length l.places → removed_at l Place p ≡ none

-- these places with their arcs
abbrev pub size_from : Layout → ℕ → Size
size_from l first = record {
  places = length l.places - first;
  arcs = sum_by (arcs_of_node l Place) (range_with_len first (length l.places - first));
}

-- whether there is an arc of one kind between t and the live place p
abbrev pub has_arc : Layout → ℕ → Way → ℕ → Bool
has_arc l t way p = nat_lt 0 (weight_along l Trans way t p)

-- whether t takes from the live place p or gives to it
abbrev pub is_round : Layout → ℕ → ℕ → Bool
is_round l t p = has_arc l t Take p || has_arc l t Give p

-- the places below n that are round t
abbrev pub round_below : Layout → ℕ → ℕ → List ℕ
round_below l t n = filter (is_round l t) (range_with_len 0 n)

-- these places with their arcs
abbrev pub size_below : Layout → ℕ → ℕ → Size
size_below l t n = record {
  places = length (round_below l t n);
  arcs = sum_by (arcs_of_node l Place) (round_below l t n);
}

-- all places round t with their arcs
abbrev pub size_round : Layout → ℕ → Size
size_round l t = size_below l t (length l.places)
