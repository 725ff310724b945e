use Rattle.std.proofs.Common.{rules, ◌≡◌, ◌-◌, ◌++◌, ◌∷◌, [], ℕ, length, subst, sym, ap, ◌∙◌, refl, arith}
use Rattle.std.proofs.lemmas.List.{get_or_default}
use Rattle.stg_arena.specs.declared.end.End.TheVariants.{Place, Trans}
use Rattle.stg_arena.specs.declared.cell.Cell.{Cell}
use Rattle.stg_arena.specs.inner.Links.{prev_at, IsRelinked}
use Rattle.stg_arena.specs.ArenaView.{Layout, no_spot, head_of, IsPushedCell, IsCellAllowed}
use Rattle.stg_arena.specs.inner.ArenaFields.{layout}
use Rattle.stg_arena.proofs.LayoutAppend.{laid_cell, timed_push, cell_more}
use Rattle.stg_arena.proofs.LinksOneSide.{pushed_cell, push_side, push_safe, cell_inside, cell_live}
use Rattle.stg_arena.proofs.arena.Arena.push_cell.Goals as goal

pub push_link-requires-clause-in_range : goal.push_link-requires-clause-in_range
push_link-requires-clause-in_range c =
    let l = layout c.self.inside in
    let A : Layout → Type 0 = λ l. IsCellAllowed l c.args.trans in
    let ok : IsCellAllowed l c.args.trans = subst A (sym c.self.view_is) c.requires in
    let last : c.len.result - 1 ≡ length l.places - 1 = search rules in
    let head : c.index.result.now.head ≡ head_of l Place (length l.places - 1) = ap (λ s. s.head) (c.index.ensures ∙ get_or_default l.places (c.len.result - 1) c.index.result.now no_spot (omega (arith, ok.place))) ∙ ap (head_of l Place) last in
    omega (arith, (push_safe l Place (length l.places - 1) c.self.inside.by_place.items c.self.invariant.arena.laid c.self.invariant.arena.timed c.self.invariant.by_place (omega (arith, ok.place)) ok.live_place).here)

pub push_link-requires-clause-prev : goal.push_link-requires-clause-prev
push_link-requires-clause-prev c =
    let l = layout c.self.inside in
    let A : Layout → Type 0 = λ l. IsCellAllowed l c.args.trans in
    let ok : IsCellAllowed l c.args.trans = subst A (sym c.self.view_is) c.requires in
    let last : c.len.result - 1 ≡ length l.places - 1 = search rules in
    let head : c.index.result.now.head ≡ head_of l Place (length l.places - 1) = ap (λ s. s.head) (c.index.ensures ∙ get_or_default l.places (c.len.result - 1) c.index.result.now no_spot (omega (arith, ok.place))) ∙ ap (head_of l Place) last in
    omega (arith, ap (prev_at c.self.inside.by_place.items) head, (push_safe l Place (length l.places - 1) c.self.inside.by_place.items c.self.invariant.arena.laid c.self.invariant.arena.timed c.self.invariant.by_place (omega (arith, ok.place)) ok.live_place).prev)

pub push_link-requires-2-clause-in_range : goal.push_link-requires-2-clause-in_range
push_link-requires-2-clause-in_range c =
    let l = layout c.self.inside in
    let A : Layout → Type 0 = λ l. IsCellAllowed l c.args.trans in
    let ok : IsCellAllowed l c.args.trans = subst A (sym c.self.view_is) c.requires in
    (push_safe l Trans c.args.trans c.self.inside.by_trans.items c.self.invariant.arena.laid c.self.invariant.arena.timed c.self.invariant.by_trans ok.trans ok.live_trans).here

pub push_link-requires-2-clause-prev : goal.push_link-requires-2-clause-prev
push_link-requires-2-clause-prev c =
    let l = layout c.self.inside in
    let A : Layout → Type 0 = λ l. IsCellAllowed l c.args.trans in
    let ok : IsCellAllowed l c.args.trans = subst A (sym c.self.view_is) c.requires in
    (push_safe l Trans c.args.trans c.self.inside.by_trans.items c.self.invariant.arena.laid c.self.invariant.arena.timed c.self.invariant.by_trans ok.trans ok.live_trans).prev

pub invariant_of-self : goal.invariant_of-self
invariant_of-self c =
    let l = layout c.self.inside in
    let A : Layout → Type 0 = λ l. IsCellAllowed l c.args.trans in
    let ok : IsCellAllowed l c.args.trans = subst A (sym c.self.view_is) c.requires in
    let last : c.len.result - 1 ≡ length l.places - 1 = search rules in
    let head : c.index.result.now.head ≡ head_of l Place (length l.places - 1) = ap (λ s. s.head) (c.index.ensures ∙ get_or_default l.places (c.len.result - 1) c.index.result.now no_spot (omega (arith, ok.place))) ∙ ap (head_of l Place) last in
    let a : Cell = record { place = length l.places - 1; trans = c.args.trans; take = c.args.take; give = c.args.give } in
    let l' : Layout = record l { cells = c.push_reserved.new.self.items } in
    let cells : l'.cells ≡ l.cells ++ a ∷ [] = c.push_reserved.ensures.items ∙ ap (λ n. l.cells ++ record { place = n; trans = c.args.trans; take = c.args.take; give = c.args.give } ∷ []) last in
    let p : IsPushedCell a l l' = pushed_cell a l l' cells refl refl refl refl c.self.invariant.arena.laid (cell_inside l c.args.trans c.args.take c.args.give ok) (cell_live l c.args.trans c.args.take c.args.give ok) (omega (arith, ok.place)) ok.after in
    let laid = laid_cell a l l' p c.self.invariant.arena.laid ok.room in
    let R : ℕ → Type 0 = λ h. IsRelinked (c.self.inside.by_place.items ++ record { prev = prev_at c.self.inside.by_place.items h; next = h } ∷ []) c.push_link.new.links.items (length c.self.inside.by_place.items) in
    record {
      arena = record { laid = laid; timed = timed_push a l l' p.pushed c.self.invariant.arena.timed (cell_more a l l' p) };
      by_place = push_side a l l' Place c.self.inside.by_place.items c.push_link.new.links.items p c.self.invariant.arena.laid laid c.self.invariant.arena.timed c.self.invariant.by_place c.push_link.ensures.len (subst R head c.push_link.ensures.links);
      by_trans = push_side a l l' Trans c.self.inside.by_trans.items c.push_link-2.new.links.items p c.self.invariant.arena.laid laid c.self.invariant.arena.timed c.self.invariant.by_trans c.push_link-2.ensures.len c.push_link-2.ensures.links;
      removals_room = c.self.invariant.removals_room;
      cells_room = omega (arith, c.self.invariant.cells_room, c.push_reserved.ensures.capacity);
      by_place_room = omega (arith, c.self.invariant.by_place_room, c.push_link.ensures.capacity);
      by_trans_room = omega (arith, c.self.invariant.by_trans_room, c.push_link-2.ensures.capacity);
      places_room = c.self.invariant.places_room;
    }

pub returns-clause-arena : goal.returns-clause-arena
returns-clause-arena c = (invariant_of-self c).arena
