use Rattle.std.proofs.Common.{◌∷◌, [], length, sym, ap, ◌∙◌, arith, List, subst}
use Rattle.std.proofs.lemmas.List.{length-append}
use Rattle.stg_edit.specs.declared.edit_start.EditStart.{EditStart}
use Rattle.stg_edit.specs.inner.View.{base, editing}
use Rattle.stg_edit.specs.inner.DraftAt.{AreEditStarts, now_of, past_of}
use Rattle.stg_edit.proofs.EditStarts.{last_start, is_undone}
use Rattle.stg_edit.proofs.DraftSizes.{sized_less}
use Rattle.stg_edit.proofs.editor.Editor.undo.Goals as goal

pub revive_to-requires-clause-in_range : goal.revive_to-requires-clause-in_range
revive_to-requires-clause-in_range c =
    let P : List EditStart → Type 0 = λ ms. AreEditStarts c.self.inside.arena ms in
    let are_starts = subst P c.take_last-start.ensures.items c.self.invariant.are_starts in
    (last_start c.self.inside.arena c.take_last-start.new.self.items c.take_last-start.result are_starts c.self.invariant.arena.timed c.self.invariant.arena.laid).within

pub revive_to-requires-clause-cells : goal.revive_to-requires-clause-cells
revive_to-requires-clause-cells c =
    let P : List EditStart → Type 0 = λ ms. AreEditStarts c.self.inside.arena ms in
    let are_starts = subst P c.take_last-start.ensures.items c.self.invariant.are_starts in
    (last_start c.self.inside.arena c.take_last-start.new.self.items c.take_last-start.result are_starts c.self.invariant.arena.timed c.self.invariant.arena.laid).all

pub pop_to-requires : goal.pop_to-requires
pop_to-requires c =
    let P : List EditStart → Type 0 = λ ms. AreEditStarts c.self.inside.arena ms in
    let m = c.take_last-start.result in
    let are_starts = subst P c.take_last-start.ensures.items c.self.invariant.are_starts in
    (m.places, (last_start c.self.inside.arena c.take_last-start.new.self.items m are_starts c.self.invariant.arena.timed c.self.invariant.arena.laid).can c.revive_to.new.self c.revive_to.ensures.back c.revive_to.ensures.moment c.revive_to.ensures.arena.timed)

pub invariant_of-self : goal.invariant_of-self
invariant_of-self c =
    let u = is_undone (base c.self.inside) c.self.inside.arena c.revive_to.new.self c.pop_to.new.self c.self.inside.starts.items c.take_last-start.new.self.items c.take_last-start.result c.take_last-start.ensures.items c.self.invariant.are_starts c.self.invariant.arena.timed c.self.invariant.arena.laid c.revive_to.ensures.back c.revive_to.ensures.moment c.revive_to.ensures.arena.timed c.pop_to.ensures.popped c.pop_to.ensures.cells c.pop_to.ensures.arena.laid in
    let x = base c.self.inside in
    let l' = c.pop_to.new.self in
    let starts = c.take_last-start.new.self.items in
    let sized = sized_less (editing c.self.inside) c.self.inside.size c.take_last-self-inside.result c.self.inside.sizes.items c.take_last-self-inside.new.self.items (now_of x l') (past_of x l' starts) c.self.invariant.sized u.past c.take_last-self-inside.ensures.items in
    record {
      arena = c.pop_to.ensures.arena;
      are_starts = u.are_starts;
      room = omega (arith, c.self.invariant.room, c.take_last-start.ensures.capacity);
      removals_long = omega (arith, c.self.invariant.removals_long, ap (λ r. r.places) u.later.rooms, u.later.trans, ap (λ r. r.removals) u.later.rooms);
      long = omega (arith, c.self.invariant.long, ap length c.take_last-start.ensures.items, length-append c.take_last-start.new.self.items (c.take_last-start.result ∷ []));
      roomy = omega (arith, c.self.invariant.roomy, ap (λ r. r.places) u.later.rooms, ap (λ r. r.cells) u.later.rooms, u.later.places, u.slim, c.self.invariant.arena.laid.places);
      names_long = c.self.invariant.names_long ∙ u.later.trans;
      named = c.self.invariant.named;
      known_room = c.self.invariant.known_room;
      sizes_room = omega (arith, c.self.invariant.sizes_room, c.take_last-self-inside.ensures.capacity);
      sized = record { now_sized = sized.1; past_sized = sized.0 };
    }

pub returns-clause-back : goal.returns-clause-back
returns-clause-back c =
    let u = is_undone (base c.self.inside) c.self.inside.arena c.revive_to.new.self c.pop_to.new.self c.self.inside.starts.items c.take_last-start.new.self.items c.take_last-start.result c.take_last-start.ensures.items c.self.invariant.are_starts c.self.invariant.arena.timed c.self.invariant.arena.laid c.revive_to.ensures.back c.revive_to.ensures.moment c.revive_to.ensures.arena.timed c.pop_to.ensures.popped c.pop_to.ensures.cells c.pop_to.ensures.arena.laid in
    sym (ap (λ v. v.past) c.self.view_is) ∙ u.past

pub returns-clause-spare : goal.returns-clause-spare
returns-clause-spare c =
    let u = is_undone (base c.self.inside) c.self.inside.arena c.revive_to.new.self c.pop_to.new.self c.self.inside.starts.items c.take_last-start.new.self.items c.take_last-start.result c.take_last-start.ensures.items c.self.invariant.are_starts c.self.invariant.arena.timed c.self.invariant.arena.laid c.revive_to.ensures.back c.revive_to.ensures.moment c.revive_to.ensures.arena.timed c.pop_to.ensures.popped c.pop_to.ensures.cells c.pop_to.ensures.arena.laid in
    record {
      edits = omega (arith, ap (λ v. v.spare.edits) c.self.view_is, ap length c.take_last-start.ensures.items, length-append c.take_last-start.new.self.items (c.take_last-start.result ∷ []));
      places = omega (arith, ap (λ v. v.spare.places) c.self.view_is, ap (λ r. r.places) u.later.rooms, u.later.places);
      arcs = omega (arith, ap (λ v. v.spare.arcs) c.self.view_is, ap (λ r. r.places) u.later.rooms, ap (λ r. r.cells) u.later.rooms, u.later.places, u.slim, c.self.invariant.arena.laid.places);
    }
