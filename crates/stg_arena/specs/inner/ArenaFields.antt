-- What is true of an arena's fields.
use Rattle.std.specs.Prelude.{◌≤◌, vec_capacity}
use Rattle.stg_arena.specs.declared.end.End.TheVariants.{Place, Trans}
use Rattle.stg_arena.specs.declared.arena.Arena.TheInside.{Inside}
use Rattle.stg_arena.specs.inner.Links.{IsHeld}
use Rattle.stg_arena.specs.ArenaView.{Layout, side, times_of, IsArena}

-- the view of an arena
abbrev pub layout : Inside → Layout
layout a = record {
  cells = a.cells.items;
  places = a.places.items;
  trans = a.trans.items;
  removals = a.removals.items;
  rooms = a.rooms;
}

-- the links of both sides are right, and the lists have room for what they may hold
pub record AreArenaFields (a : Inside) : Type 0 where
  pub arena : IsArena (layout a)
  pub by_place : IsHeld (side a.cells.items Place) (side a.cells.items Trans) (times_of (layout a))
      a.by_place.items
  pub by_trans : IsHeld (side a.cells.items Trans) (side a.cells.items Place) (times_of (layout a))
      a.by_trans.items
  pub removals_room : a.rooms.removals ≤ vec_capacity a.removals
  pub cells_room : a.rooms.cells ≤ vec_capacity a.cells
  pub by_place_room : a.rooms.cells ≤ vec_capacity a.by_place
  pub by_trans_room : a.rooms.cells ≤ vec_capacity a.by_trans
  pub places_room : a.rooms.places ≤ vec_capacity a.places
