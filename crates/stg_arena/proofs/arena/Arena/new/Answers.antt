use Rattle.std.proofs.Common.{◌≡◌, ◌+◌, length, List, subst, sym, ap, ◌∙◌, arith}
use Rattle.std.proofs.lemmas.List.FromFn.{length-map-range_with_len}
use Rattle.stg_arena.specs.declared.end.End.TheVariants.{Place, Trans}
use Rattle.stg_arena.specs.declared.links.Link.{Link}
use Rattle.stg_arena.specs.inner.Links.{IsHeld, lone_link}
use Rattle.stg_arena.specs.ArenaView.{Layout, side, times_of, IsArena}
use Rattle.stg_arena.specs.EmptyArena.{empty_arena}
use Rattle.stg_arena.proofs.EmptyArena.{arena_empty, by_place_empty, by_trans_empty}
use Rattle.stg_arena.proofs.arena.Arena.new.Goals as goal

pub invariant_of-result : goal.invariant_of-result
invariant_of-result c =
    let T = c.args.trans in
    let P = c.args.places in
    let A = c.args.cells in
    let l : Layout = record { cells = c.in_ok-push_heads.field-0.items; places = c.in_ok-with_capacity.field-0.items; trans = c.in_ok-vec.field-0.items; removals = c.in_ok-with_capacity-2.field-0.items; rooms = record { removals = P + T; cells = T + P + A; places = P } } in
    let cells = c.in_ok-push_heads.ensures.items in
    let places = c.in_ok-with_capacity.ensures.items in
    let trans = c.in_ok-vec.ensures.items_if_clones_equal (λ y e. e) in
    let removals = c.in_ok-with_capacity-2.ensures.items in
    let same : l ≡ empty_arena T P A = λ i. record { cells = cells i; places = places i; trans = trans i; removals = removals i; rooms = record { removals = P + T; cells = T + P + A; places = P } } in
    let by_place = c.in_ok-push_rings.field-0.items in
    let by_trans = c.in_ok-push_rings-2.field-0.items in
    let R : Layout → Type 0 = λ l. IsHeld (side l.cells Place) (side l.cells Trans) (times_of l) by_place in
    let C : Layout → Type 0 = λ l. IsHeld (side l.cells Trans) (side l.cells Place) (times_of l) by_trans in
    let D : List Link → Type 0 = λ links. IsHeld (side (empty_arena T P A).cells Trans) (side (empty_arena T P A).cells Place) (times_of (empty_arena T P A)) links in
    record {
      arena = subst IsArena (sym same) (arena_empty T P A c.requires);
      by_place = subst R (sym same) (by_place_empty T P A c.requires by_place (ap length c.in_ok-push_rings.ensures.items ∙ length-map-range_with_len lone_link 0 T));
      by_trans = subst C (sym same) (subst D (sym c.in_ok-push_rings-2.ensures.items) (by_trans_empty T P A c.requires));
      removals_room = omega (arith, c.in_ok-with_capacity-2.ensures.exact);
      cells_room = omega (arith, c.in_ok-push_heads.ensures.room);
      by_place_room = omega (arith, c.in_ok-push_rings.ensures.room);
      by_trans_room = omega (arith, c.in_ok-push_rings-2.ensures.room);
      places_room = omega (arith, c.in_ok-with_capacity.ensures.exact);
    }

pub returns-clause-value : goal.returns-clause-value
returns-clause-value c =
    let T = c.args.trans in
    let P = c.args.places in
    let A = c.args.cells in
    let cells = c.in_ok-push_heads.ensures.items in
    let places = c.in_ok-with_capacity.ensures.items in
    let trans = c.in_ok-vec.ensures.items_if_clones_equal (λ y e. e) in
    let removals = c.in_ok-with_capacity-2.ensures.items in
    λ i. record { cells = cells i; places = places i; trans = trans i; removals = removals i; rooms = record { removals = P + T; cells = T + P + A; places = P } }

pub returns-clause-arena : goal.returns-clause-arena
returns-clause-arena c = subst IsArena (sym (returns-clause-value c)) (arena_empty c.args.trans c.args.places c.args.cells c.requires)
