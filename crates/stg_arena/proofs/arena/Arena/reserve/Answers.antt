use Rattle.std.proofs.Common.{rules, ◌≡◌, ◌+◌, length, List, subst, sym, ◌∙◌, arith}
use Rattle.stg_arena.specs.declared.cell.Rooms.{Rooms}
use Rattle.stg_arena.specs.declared.end.End.TheVariants.{Place, Trans}
use Rattle.stg_arena.specs.declared.links.Link.{Link}
use Rattle.stg_arena.specs.ArenaView.{Layout, side, times_of, IsArena}
use Rattle.stg_arena.specs.inner.ArenaFields.{layout}
use Rattle.stg_arena.specs.inner.Links.{IsHeld}
use Rattle.stg_arena.proofs.RemovalTimes.{depth_now}
use Rattle.stg_arena.proofs.MoreRoom.{with_rooms, arena_more_room}
use Rattle.stg_arena.proofs.arena.Arena.reserve.Goals as goal

pub invariant_of-self-2 : goal.invariant_of-self-2
invariant_of-self-2 c =
    let e = c.self.inside in
    let l = layout e in
    let rooms : Rooms = record {
      removals = c.max-removal_room.result;
      cells = c.len-3.result + c.max-new_places.result + c.max-new_cells.result;
      places = c.len-2.result + c.max-new_places.result;
    } in
    let cell : c.len-3.result ≡ length e.cells.items = search rules in
    let place : c.len-2.result ≡ length e.places.items = search rules in
    let count : c.len-5.result ≡ length e.removals.items = search rules in
    let by_place : length e.by_place.items ≡ length e.cells.items = c.self.invariant.by_place.long ∙ depth_now l in
    let by_trans : length e.by_trans.items ≡ length e.cells.items = c.self.invariant.by_trans.long ∙ depth_now l in
    let l' : Layout = record { cells = c.reserve.new.self.items; places = c.reserve-4.new.self.items; trans = e.trans.items; removals = c.reserve-5.new.self.items; rooms = rooms } in
    let cells = c.reserve.ensures.items in
    let places = c.reserve-4.ensures.items in
    let removals = c.reserve-5.ensures.items in
    let same : l' ≡ with_rooms l rooms = λ i. record { cells = cells i; places = places i; trans = e.trans.items; removals = removals i; rooms = rooms } in
    let arena = arena_more_room l rooms c.self.invariant.arena (omega (arith, c.max-removal_room.ensures, c.self.invariant.arena.timed.room)) (omega arith) (omega arith) (omega arith) (omega arith) (omega arith) in
    let R : Layout → Type 0 = λ l. IsHeld (side l.cells Place) (side l.cells Trans) (times_of l) c.reserve-2.new.self.items in
    let C : Layout → Type 0 = λ l. IsHeld (side l.cells Trans) (side l.cells Place) (times_of l) c.reserve-3.new.self.items in
    let S : List Link → Type 0 = λ links. IsHeld (side l.cells Place) (side l.cells Trans) (times_of l) links in
    let D : List Link → Type 0 = λ links. IsHeld (side l.cells Trans) (side l.cells Place) (times_of l) links in
    record {
      arena = subst IsArena (sym same) arena;
      by_place = subst R (sym same) (subst S (sym c.reserve-2.ensures.items) c.self.invariant.by_place);
      by_trans = subst C (sym same) (subst D (sym c.reserve-3.ensures.items) c.self.invariant.by_trans);
      removals_room = omega (arith, c.in_ok-reserve-5.ensures.ok, c.reserve-5.ensures.len);
      cells_room = omega (arith, c.in_ok-reserve.ensures.ok, c.reserve.ensures.len);
      by_place_room = omega (arith, c.in_ok-reserve-2.ensures.ok, c.reserve-2.ensures.len);
      by_trans_room = omega (arith, c.in_ok-reserve-3.ensures.ok, c.reserve-3.ensures.len);
      places_room = omega (arith, c.in_ok-reserve-4.ensures.ok, c.reserve-4.ensures.len);
    }

pub returns-clause-arena : goal.returns-clause-arena
returns-clause-arena c = (invariant_of-self-2 c).arena
