-- The view of an editor, and what is true of its fields.
use Rattle.std.specs.Prelude.{◌≡◌, ◌≢◌, ◌≤◌, ◌<◌, ◌-◌, ◌+◌, ◌^◌, ◌==◌, ℕ, Bool, false, List, map, length, All, AllPairs, slice_index_or, vec_capacity}
use Rattle.std.specs.List.{list_any}
use Rattle.stg_net.specs.declared.signal.Signal.{Signal}
use Rattle.stg_net.specs.declared.trans.TransName.{TransName}
use Rattle.stg_net.specs.declared.limits.TheConstants.Limits.{PART}
use Rattle.stg_net.specs.Net.{signal_at}
use Rattle.stg_arena.specs.declared.end.End.TheVariants.{Trans}
use Rattle.stg_arena.specs.ArenaView.{Layout, count_of, IsArena}
use Rattle.stg_edit.specs.declared.editor.Editor.TheInside.{Inside}
use Rattle.stg_edit.specs.Editing.{Editing, Spare, full_name_in}
use Rattle.stg_edit.specs.inner.DraftAt.{Base, now_of, past_of, AreEditStarts}
use Rattle.stg_edit.specs.inner.Sizes.{IsSized}

-- what stays the same through all edits, until a signal is shown
abbrev pub base_of : List Signal → List TransName → List ℕ → ℕ → Base
base_of signals names known first = record {
  names = map (full_name_in signals) names;
  known = map (λ s. (signal_at signals s).name) known;
  first_places = first;
}

-- what stays the same through all edits of this editor, until a signal is shown
abbrev pub base : Inside → Base
base e = base_of e.signals e.names e.known.items e.first_places

-- what is spare: a new place takes a cell of its own
abbrev pub spare_of : Layout → ℕ → Spare
spare_of l edits = record {
  edits = edits;
  places = l.rooms.places - length l.places;
  arcs = l.rooms.cells - length l.cells - (l.rooms.places - length l.places);
}

-- the view of an editor
abbrev pub editing : Inside → Editing
editing e = record {
  now = now_of (base e) e.arena;
  past = past_of (base e) e.arena e.starts.items;
  spare = spare_of e.arena (e.edit_room - length e.starts.items);
  undone = e.undone;
  signals = e.signals;
}

-- the names differ, are few and in range, and a flag for each signal tells whether it is known
pub record IsNamed (signals : List Signal) (names : List TransName) (known : List ℕ)
    (is_known : List Bool) : Type 0 where
  pub in_range : All (λ (t : TransName). t.signal < length signals) names
  pub known_there : All (λ s. s < length signals) known
  pub names_differ : AllPairs (λ (s t : Signal). s.name ≢ t.name) signals
  pub trans_differ : AllPairs (λ (s t : TransName). s ≢ t) names
  pub signals_fit : length signals < 2 ^ 32
  pub flagged : (s : ℕ) → slice_index_or is_known s false ≡ list_any (λ k. k == s) known
  pub flags_long : length is_known ≡ length signals
  pub trans_few : length names ≤ PART.trans

-- what is true of an editor's fields
pub record IsEditor (e : Inside) : Type 0 where
  pub arena : IsArena e.arena
  pub are_starts : AreEditStarts e.arena e.starts.items
  pub room : e.edit_room ≤ vec_capacity e.starts
  pub removals_long : e.arena.rooms.places + count_of e.arena Trans ≤ e.arena.rooms.removals
  pub long : length e.starts.items ≤ e.edit_room
  pub sizes_room : e.edit_room ≤ vec_capacity e.sizes
  pub sized : IsSized (editing e) e.size e.sizes.items
  pub roomy : length e.arena.cells + (e.arena.rooms.places - length e.arena.places)
      ≤ e.arena.rooms.cells
  pub names_long : length e.names ≡ length e.arena.trans
  pub named : IsNamed e.signals e.names e.known.items e.is_known.items
  pub known_room : length e.signals ≤ vec_capacity e.known
