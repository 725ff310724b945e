use Rattle.std.proofs.Common.{◌≡◌, ◌+◌, ◌∷◌, [], length, subst, sym, ap, ◌∙◌, refl, arith}
use Rattle.std.proofs.lemmas.List.{length-append}
use Rattle.stg_arena.specs.declared.cell.Cell.{Cell}
use Rattle.stg_arena.specs.declared.cell.Spot.{Spot}
use Rattle.stg_arena.specs.ArenaView.{Layout}
use Rattle.stg_arena.specs.inner.LastCell.{EndsInPlace, IsPushedHead}
use Rattle.stg_arena.specs.inner.ArenaFields.{layout}
use Rattle.stg_arena.proofs.RemovalTimes.{depth_now}
use Rattle.stg_arena.proofs.LayoutTruncate.{popped_place, laid_unplace, timed_unplace, by_place_unplace, by_trans_unplace, link_less}
use Rattle.stg_arena.proofs.arena.Arena.pop_place.Goals as goal

pub invariant_of-self : goal.invariant_of-self
invariant_of-self c =
    let l' = layout c.self.inside in
    let ok : EndsInPlace l' = subst EndsInPlace (sym c.self.view_is) c.requires in
    let a : Cell = c.take_last-cell.result in
    let s : Spot = c.take_last-place.result in
    let l : Layout = record l' { cells = c.take_last-cell.new.self.items; places = c.take_last-place.new.self.items } in
    let p : IsPushedHead a s l l' = popped_place a s l l' c.take_last-cell.ensures.items refl c.take_last-place.ensures.items refl refl c.self.invariant.arena.laid ok in
    let timed = timed_unplace a s l l' p c.self.invariant.arena.timed ok.late in
    let by_place = c.take_last-by_place.new.self.items in
    let by_trans = c.take_last-by_trans.new.self.items in
    let long : length c.self.inside.cells.items ≡ length l.cells + 1 = ap length c.take_last-cell.ensures.items ∙ length-append l.cells (a ∷ []) ∙ omega arith in
    let place_long : length by_place ≡ length l.cells = omega (arith, ap length c.take_last-by_place.ensures.items, length-append by_place (c.take_last-by_place.result ∷ []), c.self.invariant.by_place.long, depth_now l') in
    let trans_long : length by_trans ≡ length l.cells = omega (arith, ap length c.take_last-by_trans.ensures.items, length-append by_trans (c.take_last-by_trans.result ∷ []), c.self.invariant.by_trans.long, depth_now l') in
    record {
      arena = record { laid = laid_unplace a s l l' p c.self.invariant.arena.laid; timed = timed };
      by_place = by_place_unplace a s l l' p c.self.inside.by_place.items by_place c.self.invariant.arena.laid timed c.self.invariant.by_place place_long (rw (← place_long) (link_less c.self.inside.by_place.items by_place c.take_last-by_place.result c.take_last-by_place.ensures.items));
      by_trans = by_trans_unplace a s l l' p c.self.inside.by_trans.items by_trans c.self.invariant.arena.laid timed c.self.invariant.by_trans trans_long (rw (← trans_long) (link_less c.self.inside.by_trans.items by_trans c.take_last-by_trans.result c.take_last-by_trans.ensures.items));
      removals_room = c.self.invariant.removals_room;
      cells_room = omega (arith, c.self.invariant.cells_room, c.take_last-cell.ensures.capacity);
      by_place_room = omega (arith, c.self.invariant.by_place_room, c.take_last-by_place.ensures.capacity);
      by_trans_room = omega (arith, c.self.invariant.by_trans_room, c.take_last-by_trans.ensures.capacity);
      places_room = omega (arith, c.self.invariant.places_room, c.take_last-place.ensures.capacity);
    }

pub returns-clause-popped : goal.returns-clause-popped
returns-clause-popped c =
    let l' = layout c.self.inside in
    let ok : EndsInPlace l' = subst EndsInPlace (sym c.self.view_is) c.requires in
    let a : Cell = c.take_last-cell.result in
    let s : Spot = c.take_last-place.result in
    let l : Layout = record l' { cells = c.take_last-cell.new.self.items; places = c.take_last-place.new.self.items } in
    let p : IsPushedHead a s l l' = popped_place a s l l' c.take_last-cell.ensures.items refl c.take_last-place.ensures.items refl refl c.self.invariant.arena.laid ok in
    let P : Layout → Type 0 = λ m. (a : Cell) × (s : Spot) × IsPushedHead a s l m in
    subst P c.self.view_is (a, s, p)

pub returns-clause-arena : goal.returns-clause-arena
returns-clause-arena c = (invariant_of-self c).arena
