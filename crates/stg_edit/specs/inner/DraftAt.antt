-- The drafts that an editor's fields stand for.
use Rattle.std.specs.Prelude.{◌≡◌, ◌<◌, ◌≤◌, ◌⊎◌, ◌+◌, ℕ, nat_le, List, Option, None, map, length, slice_get, slice_index_or, if◌then◌else◌}
use Rattle.std.specs.List.{range_with_len}
use Rattle.stg_net.specs.Graph.{Graph, FullName}
use Rattle.stg_arena.specs.declared.end.End.{End}
use Rattle.stg_arena.specs.declared.end.Way.{Way}
use Rattle.stg_arena.specs.declared.end.End.TheVariants.{Place, Trans}
use Rattle.stg_arena.specs.declared.end.Way.TheVariants.{Take, Give}
use Rattle.stg_arena.specs.ArenaView.{Layout, none, spot_at, cell_at, end_of, removal_at, removed_at}
use Rattle.stg_arena.specs.Incidence.{weight}
use Rattle.stg_edit.specs.inner.Table.{Table, table_places}
use Rattle.stg_edit.specs.declared.edit_start.EditStart.{EditStart}

-- the weights of t at the moment s
abbrev pub weight_at : Layout → ℕ → Way → ℕ → ℕ → ℕ
weight_at l s way t p = if nat_le s (removed_at l Trans t) then weight l.cells way p t else 0

-- what the draft at the moment s is made of
abbrev pub table_at : Layout → ℕ → Table
table_at l s = record {
  is_live = λ p. nat_le s (removed_at l Place p);
  tokens = λ p. (spot_at l.places p).tokens;
  take_weight = weight_at l s Take;
  give_weight = weight_at l s Give;
}

-- what stays the same through all edits: the names of the transitions, the known signals, and how
-- many places there were at first
pub record Base : Type 0 where
  pub names : List FullName
  pub known : List (List ℕ)
  pub first_places : ℕ

-- the name of a transition, where it is live at the moment s
abbrev pub draft_name : Layout → List FullName → ℕ → ℕ → Option FullName
draft_name l names s t = if nat_le s (removed_at l Trans t) then slice_get names t else None

-- the draft at the moment s, with n places
abbrev pub draft_at : Base → Layout → ℕ → ℕ → Graph
draft_at base l s n = record {
  places = table_places n (length l.trans) (table_at l s);
  trans = map (draft_name l base.names s) (range_with_len 0 (length l.trans));
  known = base.known;
  first_places = base.first_places;
}

-- the draft now
abbrev pub now_of : Base → Layout → Graph
now_of base l = draft_at base l (length l.removals) (length l.places)

-- the drafts before each edit
abbrev pub past_of : Base → Layout → List EditStart → List Graph
past_of base l starts = map (λ m. draft_at base l m.moment m.places) starts

-- where an edit would begin now
abbrev pub present_start : Layout → EditStart
present_start l = record
    { moment = length l.removals; places = length l.places; cells = length l.cells }

-- where the i-th edit began; past all edits stands the present
abbrev pub start_at : Layout → List EditStart → ℕ → EditStart
start_at l starts i = slice_index_or starts i (present_start l)

-- where the edits began ascends; what was removed during an edit was removed after the edit's
-- cells were there; and the cells that an edit
-- or a later one made are those of places that weren't there before
pub record AreEditStarts (l : Layout) (starts : List EditStart) : Type 0 where
  pub up : (i j : ℕ) → i ≤ j → j ≤ length starts
      → (start_at l starts i).moment ≤ (start_at l starts j).moment
  pub places_up : (i j : ℕ) → i ≤ j → j ≤ length starts
      → (start_at l starts i).places ≤ (start_at l starts j).places
  pub cells_up : (i j : ℕ) → i ≤ j → j ≤ length starts
      → (start_at l starts i).cells ≤ (start_at l starts j).cells
  pub before : (i s : ℕ) → i ≤ length starts → s < (start_at l starts i).moment
      → (removal_at l s).cells ≤ (start_at l starts i).cells
  pub during : (i s : ℕ) → i < length starts → (start_at l starts i).moment ≤ s
      → s < (start_at l starts (i + 1)).moment
      → (removal_at l s).cells ≡ (start_at l starts (i + 1)).cells
  pub older : (i c : ℕ) → i ≤ length starts → c < (start_at l starts i).cells
      → ((cell_at l.cells c).place ≡ none)
      ⊎ ((cell_at l.cells c).place < (start_at l starts i).places)
  pub newer : (i c : ℕ) → i ≤ length starts → (start_at l starts i).cells ≤ c → c < length l.cells
      → ((start_at l starts i).places ≤ (cell_at l.cells c).place)
      × ((cell_at l.cells c).place < none)
  pub born : (i c : ℕ) (b : End) → i ≤ length starts → (start_at l starts i).cells ≤ c
      → c < length l.cells → (start_at l starts i).moment
      ≤ removed_at l b (end_of b (cell_at l.cells c))
