use Rattle.std.proofs.Common.{◌-◌, length, subst, sym, refl, arith}
use Rattle.stg_arena.specs.declared.end.End.TheVariants.{Place, Trans}
use Rattle.stg_arena.specs.declared.cell.Cell.{Cell}
use Rattle.stg_arena.specs.ArenaView.{Layout, cell_at, IsPushedCell}
use Rattle.stg_arena.specs.inner.LastCell.{EndsInCell}
use Rattle.stg_arena.specs.inner.ArenaFields.{layout}
use Rattle.stg_arena.proofs.LinksTruncate.{last_cell, popped_cell, laid_pop, timed_pop, pop_side, pop_safe}
use Rattle.stg_arena.proofs.arena.Arena.pop_cell.Goals as goal

pub pop_link-requires-clause-prev : goal.pop_link-requires-clause-prev
pop_link-requires-clause-prev c =
    let l' = layout c.self.inside in
    (pop_safe l' Place c.self.inside.by_place.items c.self.invariant.arena.laid c.self.invariant.arena.timed c.self.invariant.by_place (subst EndsInCell (sym c.self.view_is) c.requires)).prev

pub pop_link-requires-clause-next : goal.pop_link-requires-clause-next
pop_link-requires-clause-next c =
    let l' = layout c.self.inside in
    (pop_safe l' Place c.self.inside.by_place.items c.self.invariant.arena.laid c.self.invariant.arena.timed c.self.invariant.by_place (subst EndsInCell (sym c.self.view_is) c.requires)).next

pub pop_link-requires-2-clause-prev : goal.pop_link-requires-2-clause-prev
pop_link-requires-2-clause-prev c =
    let l' = layout c.self.inside in
    (pop_safe l' Trans c.self.inside.by_trans.items c.self.invariant.arena.laid c.self.invariant.arena.timed c.self.invariant.by_trans (subst EndsInCell (sym c.self.view_is) c.requires)).prev

pub pop_link-requires-2-clause-next : goal.pop_link-requires-2-clause-next
pop_link-requires-2-clause-next c =
    let l' = layout c.self.inside in
    (pop_safe l' Trans c.self.inside.by_trans.items c.self.invariant.arena.laid c.self.invariant.arena.timed c.self.invariant.by_trans (subst EndsInCell (sym c.self.view_is) c.requires)).next

pub invariant_of-self : goal.invariant_of-self
invariant_of-self c =
    let l' = layout c.self.inside in
    let ok : EndsInCell l' = subst EndsInCell (sym c.self.view_is) c.requires in
    let a : Cell = c.take_last-cell.result in
    let l : Layout = record l' { cells = c.take_last-cell.new.self.items } in
    let p : IsPushedCell a l l' = popped_cell a l l' c.take_last-cell.ensures.items refl refl refl refl c.self.invariant.arena.laid ok in
    let timed = timed_pop a l l' p c.self.invariant.arena.timed ok in
    record {
      arena = record { laid = laid_pop a l l' p c.self.invariant.arena.laid; timed = timed };
      by_place = pop_side a l l' Place c.self.inside.by_place.items c.pop_link.ensures.links.0 c.pop_link.new.links.items p c.self.invariant.arena.laid timed c.self.invariant.by_place c.pop_link.ensures.len c.pop_link.ensures.links.1 c.pop_link.ensures.links.2;
      by_trans = pop_side a l l' Trans c.self.inside.by_trans.items c.pop_link-2.ensures.links.0 c.pop_link-2.new.links.items p c.self.invariant.arena.laid timed c.self.invariant.by_trans c.pop_link-2.ensures.len c.pop_link-2.ensures.links.1 c.pop_link-2.ensures.links.2;
      removals_room = c.self.invariant.removals_room;
      cells_room = omega (arith, c.self.invariant.cells_room, c.take_last-cell.ensures.capacity);
      by_place_room = omega (arith, c.self.invariant.by_place_room, c.pop_link.ensures.capacity);
      by_trans_room = omega (arith, c.self.invariant.by_trans_room, c.pop_link-2.ensures.capacity);
      places_room = c.self.invariant.places_room;
    }

pub returns-clause-popped : goal.returns-clause-popped
returns-clause-popped c =
    let l' = layout c.self.inside in
    let ok : EndsInCell l' = subst EndsInCell (sym c.self.view_is) c.requires in
    let a : Cell = c.take_last-cell.result in
    let l : Layout = record l' { cells = c.take_last-cell.new.self.items } in
    let p : IsPushedCell a l l' = popped_cell a l l' c.take_last-cell.ensures.items refl refl refl refl c.self.invariant.arena.laid ok in
    let P : Layout → Type 0 = λ m. IsPushedCell (cell_at m.cells (length m.cells - 1)) l m in
    let Q : Cell → Type 0 = λ a. IsPushedCell a l l' in
    subst P c.self.view_is (subst Q (sym (last_cell a l l' c.take_last-cell.ensures.items)) p)

pub returns-clause-arena : goal.returns-clause-arena
returns-clause-arena c = (invariant_of-self c).arena
