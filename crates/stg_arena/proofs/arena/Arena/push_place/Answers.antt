use Rattle.std.proofs.Common.{rules, ◌≡◌, ◌<◌, ◌++◌, ◌∷◌, [], length, subst, sym, ap, ◌∙◌, refl, arith, List}
use Rattle.stg_arena.specs.declared.end.End.TheVariants.{Place, Trans}
use Rattle.stg_arena.specs.declared.links.Link.{Link}
use Rattle.stg_arena.specs.declared.cell.Spot.{Spot}
use Rattle.stg_arena.specs.inner.Links.{IsHeld}
use Rattle.stg_arena.specs.ArenaView.{Layout, none, side, times_of, head_cell, IsPushedPlace}
use Rattle.stg_arena.specs.inner.ArenaFields.{layout}
use Rattle.stg_arena.proofs.RemovalTimes.{depth_now}
use Rattle.stg_arena.proofs.LayoutAppend.{laid_place, timed_push, place_more}
use Rattle.stg_arena.proofs.LinksOneSide.{pushed_place, push_head, push_apart}
use Rattle.stg_arena.proofs.arena.Arena.push_place.Goals as goal

pub invariant_of-self : goal.invariant_of-self
invariant_of-self c =
    let l = layout c.self.inside in
    let S : Layout → Type 0 = λ l. length l.cells < l.rooms.cells in
    let R : Layout → Type 0 = λ l. length l.places < l.rooms.places in
    let room : length l.cells < l.rooms.cells = subst S (sym c.self.view_is) c.requires.room in
    let space : length l.places < l.rooms.places = subst R (sym c.self.view_is) c.requires.space in
    let cell : c.len-cell.result ≡ length c.self.inside.cells.items = search rules in
    let place : c.len-place.result ≡ length c.self.inside.places.items = search rules in
    let s : Spot = record { head = length c.self.inside.cells.items; tokens = c.args.tokens; removed_at = none } in
    let l' : Layout = record l { cells = c.push_reserved-3.new.self.items; places = c.push_reserved-4.new.self.items } in
    let cells : l'.cells ≡ l.cells ++ head_cell l ∷ [] = c.push_reserved-3.ensures.items ∙ ap (λ n. l.cells ++ record { place = n; trans = none; take = 0; give = 0 } ∷ []) place in
    let places : l'.places ≡ l.places ++ s ∷ [] = c.push_reserved-4.ensures.items ∙ ap (λ n. l.places ++ record { head = n; tokens = c.args.tokens; removed_at = none } ∷ []) cell in
    let p : IsPushedPlace s l l' = pushed_place s l l' cells refl places refl refl c.self.invariant.arena.laid refl refl in
    let laid = laid_place s l l' p c.self.invariant.arena.laid room space in
    let long : length c.self.inside.by_place.items ≡ c.len-cell.result = c.self.invariant.by_place.long ∙ depth_now l ∙ sym cell in
    let P : List Link → Type 0 = λ xs. IsHeld (side l'.cells Place) (side l'.cells Trans) (times_of l') xs in
    let Q : List Link → Type 0 = λ xs. IsHeld (side l'.cells Trans) (side l'.cells Place) (times_of l') xs in
    record {
      arena = record { laid = laid; timed = timed_push (head_cell l) l l' p.pushed c.self.invariant.arena.timed (place_more s l l' p) };
      by_place = subst P (sym (c.push_reserved.ensures.items ∙ ap (λ n. c.self.inside.by_place.items ++ record { prev = n; next = n } ∷ []) (sym long))) (push_head s l l' c.self.inside.by_place.items p c.self.invariant.arena.laid laid c.self.invariant.arena.timed c.self.invariant.by_place);
      by_trans = subst Q (sym c.push_reserved-2.ensures.items) (push_apart s l l' c.self.inside.by_trans.items (record { prev = c.len-cell.result; next = c.len-cell.result }) p c.self.invariant.arena.laid laid c.self.invariant.arena.timed c.self.invariant.by_trans);
      removals_room = c.self.invariant.removals_room;
      cells_room = omega (arith, c.self.invariant.cells_room, c.push_reserved-3.ensures.capacity);
      by_place_room = omega (arith, c.self.invariant.by_place_room, c.push_reserved.ensures.capacity);
      by_trans_room = omega (arith, c.self.invariant.by_trans_room, c.push_reserved-2.ensures.capacity);
      places_room = omega (arith, c.self.invariant.places_room, c.push_reserved-4.ensures.capacity);
    }

pub returns-clause-pushed : goal.returns-clause-pushed
returns-clause-pushed c =
    let l = layout c.self.inside in
    let cell : c.len-cell.result ≡ length c.self.inside.cells.items = search rules in
    let place : c.len-place.result ≡ length c.self.inside.places.items = search rules in
    let s : Spot = record { head = length c.self.inside.cells.items; tokens = c.args.tokens; removed_at = none } in
    let l' : Layout = record l { cells = c.push_reserved-3.new.self.items; places = c.push_reserved-4.new.self.items } in
    let cells : l'.cells ≡ l.cells ++ head_cell l ∷ [] = c.push_reserved-3.ensures.items ∙ ap (λ n. l.cells ++ record { place = n; trans = none; take = 0; give = 0 } ∷ []) place in
    let places : l'.places ≡ l.places ++ s ∷ [] = c.push_reserved-4.ensures.items ∙ ap (λ n. l.places ++ record { head = n; tokens = c.args.tokens; removed_at = none } ∷ []) cell in
    let p : IsPushedPlace s l l' = pushed_place s l l' cells refl places refl refl c.self.invariant.arena.laid refl refl in
    let P : Layout → Type 0 = λ m. IsPushedPlace (record { head = length m.cells; tokens = c.args.tokens; removed_at = none }) m l' in
    subst P c.self.view_is p

pub returns-clause-arena : goal.returns-clause-arena
returns-clause-arena c = (invariant_of-self c).arena
