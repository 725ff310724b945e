use Rattle.std.proofs.Common.{◌≤◌, ◌<◌, ◌-◌, ◌++◌, ◌∷◌, [], length, sym, ap, ◌∙◌, arith}
use Rattle.std.proofs.lemmas.List.{length-append}
use Rattle.stg_net.specs.Contraction.{contracted}
use Rattle.stg_net.specs.declared.limits.TheConstants.Limits.{PART}
use Rattle.stg_arena.specs.declared.end.End.TheVariants.{Place, Trans}
use Rattle.stg_edit.specs.Replacing.{new_places, new_arcs}
use Rattle.stg_edit.specs.declared.edit_start.EditStart.{EditStart}
use Rattle.stg_edit.specs.declared.size.Size.{Size}
use Rattle.stg_edit.specs.inner.View.{base, editing}
use Rattle.stg_edit.specs.inner.DraftAt.{past_of, now_of}
use Rattle.stg_edit.specs.inner.Sizes.{size_of, size_from, size_round, plus, minus}
use Rattle.stg_arena.proofs.RemovalTimes.{removals_short}
use Rattle.stg_edit.proofs.EditStarts.{starts_more, past_more}
use Rattle.stg_edit.proofs.Replacing.{may_replace, is_replaced}
use Rattle.stg_edit.proofs.DraftSizes.{minus_plus, is_resized, sized_more}
use Rattle.stg_edit.proofs.editor.Editor.replace.Goals as goal

pub add_pair_places-requires-clause-in_range : goal.add_pair_places-requires-clause-in_range
add_pair_places-requires-clause-in_range c =
    let may = may_replace (base c.self.inside) c.args.t (c.self.inside.edit_room - length c.self.inside.starts.items) c.self.inside.arena c.args.self.now (ap (λ v. v.now) c.self.view_is) (ap (λ v. v.spare) c.self.view_is) c.self.invariant.arena.timed c.self.invariant.arena.laid c.self.invariant.roomy c.requires.live c.requires.places c.requires.arcs c.requires.sums in
    may.range

pub add_pair_places-requires-clause-live : goal.add_pair_places-requires-clause-live
add_pair_places-requires-clause-live c =
    let may = may_replace (base c.self.inside) c.args.t (c.self.inside.edit_room - length c.self.inside.starts.items) c.self.inside.arena c.args.self.now (ap (λ v. v.now) c.self.view_is) (ap (λ v. v.spare) c.self.view_is) c.self.invariant.arena.timed c.self.invariant.arena.laid c.self.invariant.roomy c.requires.live c.requires.places c.requires.arcs c.requires.sums in
    may.live

pub add_pair_places-requires-clause-can : goal.add_pair_places-requires-clause-can
add_pair_places-requires-clause-can c =
    let may = may_replace (base c.self.inside) c.args.t (c.self.inside.edit_room - length c.self.inside.starts.items) c.self.inside.arena c.args.self.now (ap (λ v. v.now) c.self.view_is) (ap (λ v. v.spare) c.self.view_is) c.self.invariant.arena.timed c.self.invariant.arena.laid c.self.invariant.roomy c.requires.live c.requires.places c.requires.arcs c.requires.sums in
    may.can

pub remove_round-requires-clause-in_range : goal.remove_round-requires-clause-in_range
remove_round-requires-clause-in_range c =
    let may = may_replace (base c.self.inside) c.args.t (c.self.inside.edit_room - length c.self.inside.starts.items) c.self.inside.arena c.args.self.now (ap (λ v. v.now) c.self.view_is) (ap (λ v. v.spare) c.self.view_is) c.self.invariant.arena.timed c.self.invariant.arena.laid c.self.invariant.roomy c.requires.live c.requires.places c.requires.arcs c.requires.sums in
    omega (arith, may.range, c.add_pair_places.ensures.appended.later.trans)

pub remove_round-requires-clause-live : goal.remove_round-requires-clause-live
remove_round-requires-clause-live c =
    let may = may_replace (base c.self.inside) c.args.t (c.self.inside.edit_room - length c.self.inside.starts.items) c.self.inside.arena c.args.self.now (ap (λ v. v.now) c.self.view_is) (ap (λ v. v.spare) c.self.view_is) c.self.invariant.arena.timed c.self.invariant.arena.laid c.self.invariant.roomy c.requires.live c.requires.places c.requires.arcs c.requires.sums in
    c.add_pair_places.ensures.appended.same Trans c.args.t ∙ may.live

pub remove_round-requires-clause-room : goal.remove_round-requires-clause-room
remove_round-requires-clause-room c =
    let f = c.add_pair_places.ensures.appended.later in
    omega (arith, c.self.invariant.removals_long, ap (λ r. r.places) f.rooms, f.trans, ap (λ r. r.removals) f.rooms)

pub remove-requires-clause-in_range : goal.remove-requires-clause-in_range
remove-requires-clause-in_range c =
    let may = may_replace (base c.self.inside) c.args.t (c.self.inside.edit_room - length c.self.inside.starts.items) c.self.inside.arena c.args.self.now (ap (λ v. v.now) c.self.view_is) (ap (λ v. v.spare) c.self.view_is) c.self.invariant.arena.timed c.self.invariant.arena.laid c.self.invariant.roomy c.requires.live c.requires.places c.requires.arcs c.requires.sums in
    omega (arith, may.range, c.add_pair_places.ensures.appended.later.trans, (c.remove_round.ensures.fewer.later 0).trans)

pub remove-requires-clause-live : goal.remove-requires-clause-live
remove-requires-clause-live c =
    let may = may_replace (base c.self.inside) c.args.t (c.self.inside.edit_room - length c.self.inside.starts.items) c.self.inside.arena c.args.self.now (ap (λ v. v.now) c.self.view_is) (ap (λ v. v.spare) c.self.view_is) c.self.invariant.arena.timed c.self.invariant.arena.laid c.self.invariant.roomy c.requires.live c.requires.places c.requires.arcs c.requires.sums in
    c.remove_round.ensures.fewer.trans c.args.t ∙ c.add_pair_places.ensures.appended.same Trans c.args.t ∙ may.live

pub remove-requires-clause-room : goal.remove-requires-clause-room
remove-requires-clause-room c =
    let may = may_replace (base c.self.inside) c.args.t (c.self.inside.edit_room - length c.self.inside.starts.items) c.self.inside.arena c.args.self.now (ap (λ v. v.now) c.self.view_is) (ap (λ v. v.spare) c.self.view_is) c.self.invariant.arena.timed c.self.invariant.arena.laid c.self.invariant.roomy c.requires.live c.requires.places c.requires.arcs c.requires.sums in
    let t = c.args.t in
    let f = c.add_pair_places.ensures.appended.later in
    let g = c.remove_round.ensures.fewer.later 0 in
    let range : t < length c.remove_round.new.arena.trans = omega (arith, may.range, f.trans, g.trans) in
    omega (arith, removals_short c.remove_round.new.arena Trans t c.remove_round.ensures.arena.timed range (c.remove_round.ensures.fewer.trans t ∙ c.add_pair_places.ensures.appended.same Trans t ∙ may.live), c.remove_round.ensures.arena.laid.places, c.self.invariant.removals_long, ap (λ r. r.places) f.rooms, f.trans, ap (λ r. r.removals) f.rooms, ap (λ r. r.places) g.rooms, g.trans, ap (λ r. r.removals) g.rooms)

pub size_round-removed-requires-clause-in_range : goal.size_round-removed-requires-clause-in_range
size_round-removed-requires-clause-in_range c =
    let may = may_replace (base c.self.inside) c.args.t (c.self.inside.edit_room - length c.self.inside.starts.items) c.self.inside.arena c.args.self.now (ap (λ v. v.now) c.self.view_is) (ap (λ v. v.spare) c.self.view_is) c.self.invariant.arena.timed c.self.invariant.arena.laid c.self.invariant.roomy c.requires.live c.requires.places c.requires.arcs c.requires.sums in
    may.range

pub size_round-removed-requires-clause-live : goal.size_round-removed-requires-clause-live
size_round-removed-requires-clause-live c =
    let may = may_replace (base c.self.inside) c.args.t (c.self.inside.edit_room - length c.self.inside.starts.items) c.self.inside.arena c.args.self.now (ap (λ v. v.now) c.self.view_is) (ap (λ v. v.spare) c.self.view_is) c.self.invariant.arena.timed c.self.invariant.arena.laid c.self.invariant.roomy c.requires.live c.requires.places c.requires.arcs c.requires.sums in
    may.live

pub size_from-made-requires-clause-bounded : goal.size_from-made-requires-clause-bounded
size_from-made-requires-clause-bounded c =
    let may = may_replace (base c.self.inside) c.args.t (c.self.inside.edit_room - length c.self.inside.starts.items) c.self.inside.arena c.args.self.now (ap (λ v. v.now) c.self.view_is) (ap (λ v. v.spare) c.self.view_is) c.self.invariant.arena.timed c.self.invariant.arena.laid c.self.invariant.roomy c.requires.live c.requires.places c.requires.arcs c.requires.sums in
    let r = is_replaced (base c.self.inside) c.args.t c.self.inside.arena c.add_pair_places.new.arena c.remove_round.new.arena c.remove.new.self c.self.invariant.arena.timed c.self.invariant.arena.laid c.add_pair_places.ensures.arena.timed c.remove_round.ensures.arena.timed c.remove.ensures.arena.timed c.add_pair_places.ensures.arena.laid may c.add_pair_places.ensures c.remove_round.ensures c.remove.ensures.removed in
    omega (arith, r.later.trans, c.self.invariant.names_long, c.self.invariant.named.trans_few)

pub size_from-made-requires-clause-in_range : goal.size_from-made-requires-clause-in_range
size_from-made-requires-clause-in_range c =
    let may = may_replace (base c.self.inside) c.args.t (c.self.inside.edit_room - length c.self.inside.starts.items) c.self.inside.arena c.args.self.now (ap (λ v. v.now) c.self.view_is) (ap (λ v. v.spare) c.self.view_is) c.self.invariant.arena.timed c.self.invariant.arena.laid c.self.invariant.roomy c.requires.live c.requires.places c.requires.arcs c.requires.sums in
    let r = is_replaced (base c.self.inside) c.args.t c.self.inside.arena c.add_pair_places.new.arena c.remove_round.new.arena c.remove.new.self c.self.invariant.arena.timed c.self.invariant.arena.laid c.add_pair_places.ensures.arena.timed c.remove_round.ensures.arena.timed c.remove.ensures.arena.timed c.add_pair_places.ensures.arena.laid may c.add_pair_places.ensures c.remove_round.ensures c.remove.ensures.removed in
    omega (arith, r.later.places, ap (λ x. x.places) c.edit_start-start.ensures)

pub size_from-made-requires-clause-live : goal.size_from-made-requires-clause-live
size_from-made-requires-clause-live c =
    let may = may_replace (base c.self.inside) c.args.t (c.self.inside.edit_room - length c.self.inside.starts.items) c.self.inside.arena c.args.self.now (ap (λ v. v.now) c.self.view_is) (ap (λ v. v.spare) c.self.view_is) c.self.invariant.arena.timed c.self.invariant.arena.laid c.self.invariant.roomy c.requires.live c.requires.places c.requires.arcs c.requires.sums in
    let r = is_replaced (base c.self.inside) c.args.t c.self.inside.arena c.add_pair_places.new.arena c.remove_round.new.arena c.remove.new.self c.self.invariant.arena.timed c.self.invariant.arena.laid c.add_pair_places.ensures.arena.timed c.remove_round.ensures.arena.timed c.remove.ensures.arena.timed c.add_pair_places.ensures.arena.laid may c.add_pair_places.ensures c.remove_round.ensures c.remove.ensures.removed in
    let few : length c.self.inside.arena.trans ≤ PART.trans = omega (arith, c.self.invariant.names_long, c.self.invariant.named.trans_few) in
    let z = is_resized (base c.self.inside) c.args.t c.self.inside.arena c.remove.new.self c.self.invariant.arena.timed c.remove.ensures.arena.timed few may.range may.live r in
    λ p low high. z.live p (omega (arith, low, ap (λ x. x.places) c.edit_start-start.ensures)) high

pub plus-requires-clause-places : goal.plus-requires-clause-places
plus-requires-clause-places c =
    let may = may_replace (base c.self.inside) c.args.t (c.self.inside.edit_room - length c.self.inside.starts.items) c.self.inside.arena c.args.self.now (ap (λ v. v.now) c.self.view_is) (ap (λ v. v.spare) c.self.view_is) c.self.invariant.arena.timed c.self.invariant.arena.laid c.self.invariant.roomy c.requires.live c.requires.places c.requires.arcs c.requires.sums in
    let r = is_replaced (base c.self.inside) c.args.t c.self.inside.arena c.add_pair_places.new.arena c.remove_round.new.arena c.remove.new.self c.self.invariant.arena.timed c.self.invariant.arena.laid c.add_pair_places.ensures.arena.timed c.remove_round.ensures.arena.timed c.remove.ensures.arena.timed c.add_pair_places.ensures.arena.laid may c.add_pair_places.ensures c.remove_round.ensures c.remove.ensures.removed in
    let few : length c.self.inside.arena.trans ≤ PART.trans = omega (arith, c.self.invariant.names_long, c.self.invariant.named.trans_few) in
    let z = is_resized (base c.self.inside) c.args.t c.self.inside.arena c.remove.new.self c.self.invariant.arena.timed c.remove.ensures.arena.timed few may.range may.live r in
    let made = c.size_from-made.ensures ∙ ap (size_from c.remove.new.self) (ap (λ x. x.places) c.edit_start-start.ensures) in
    omega (arith, z.few_places, c.remove.ensures.arena.laid.sizes Place, ap (λ (s : Size). s.places) made, ap (λ (s : Size). s.places) c.self.invariant.sized.now_sized)

pub plus-requires-clause-arcs : goal.plus-requires-clause-arcs
plus-requires-clause-arcs c =
    let may = may_replace (base c.self.inside) c.args.t (c.self.inside.edit_room - length c.self.inside.starts.items) c.self.inside.arena c.args.self.now (ap (λ v. v.now) c.self.view_is) (ap (λ v. v.spare) c.self.view_is) c.self.invariant.arena.timed c.self.invariant.arena.laid c.self.invariant.roomy c.requires.live c.requires.places c.requires.arcs c.requires.sums in
    let r = is_replaced (base c.self.inside) c.args.t c.self.inside.arena c.add_pair_places.new.arena c.remove_round.new.arena c.remove.new.self c.self.invariant.arena.timed c.self.invariant.arena.laid c.add_pair_places.ensures.arena.timed c.remove_round.ensures.arena.timed c.remove.ensures.arena.timed c.add_pair_places.ensures.arena.laid may c.add_pair_places.ensures c.remove_round.ensures c.remove.ensures.removed in
    let few : length c.self.inside.arena.trans ≤ PART.trans = omega (arith, c.self.invariant.names_long, c.self.invariant.named.trans_few) in
    let z = is_resized (base c.self.inside) c.args.t c.self.inside.arena c.remove.new.self c.self.invariant.arena.timed c.remove.ensures.arena.timed few may.range may.live r in
    let made = c.size_from-made.ensures ∙ ap (size_from c.remove.new.self) (ap (λ x. x.places) c.edit_start-start.ensures) in
    omega (arith, z.few_arcs, c.remove.ensures.arena.laid.sizes Place, ap (λ (s : Size). s.arcs) made, ap (λ (s : Size). s.arcs) c.self.invariant.sized.now_sized)

pub minus-self-inside-requires-clause-places : goal.minus-self-inside-requires-clause-places
minus-self-inside-requires-clause-places c =
    let may = may_replace (base c.self.inside) c.args.t (c.self.inside.edit_room - length c.self.inside.starts.items) c.self.inside.arena c.args.self.now (ap (λ v. v.now) c.self.view_is) (ap (λ v. v.spare) c.self.view_is) c.self.invariant.arena.timed c.self.invariant.arena.laid c.self.invariant.roomy c.requires.live c.requires.places c.requires.arcs c.requires.sums in
    let r = is_replaced (base c.self.inside) c.args.t c.self.inside.arena c.add_pair_places.new.arena c.remove_round.new.arena c.remove.new.self c.self.invariant.arena.timed c.self.invariant.arena.laid c.add_pair_places.ensures.arena.timed c.remove_round.ensures.arena.timed c.remove.ensures.arena.timed c.add_pair_places.ensures.arena.laid may c.add_pair_places.ensures c.remove_round.ensures c.remove.ensures.removed in
    let few : length c.self.inside.arena.trans ≤ PART.trans = omega (arith, c.self.invariant.names_long, c.self.invariant.named.trans_few) in
    let z = is_resized (base c.self.inside) c.args.t c.self.inside.arena c.remove.new.self c.self.invariant.arena.timed c.remove.ensures.arena.timed few may.range may.live r in
    let made = c.size_from-made.ensures ∙ ap (size_from c.remove.new.self) (ap (λ x. x.places) c.edit_start-start.ensures) in
    omega (arith, ap (λ (s : Size). s.places) z.whole, ap (λ (s : Size). s.places) c.plus.ensures, ap (λ (s : Size). s.places) made, ap (λ (s : Size). s.places) c.size_round-removed.ensures, ap (λ (s : Size). s.places) c.self.invariant.sized.now_sized)

pub minus-self-inside-requires-clause-arcs : goal.minus-self-inside-requires-clause-arcs
minus-self-inside-requires-clause-arcs c =
    let may = may_replace (base c.self.inside) c.args.t (c.self.inside.edit_room - length c.self.inside.starts.items) c.self.inside.arena c.args.self.now (ap (λ v. v.now) c.self.view_is) (ap (λ v. v.spare) c.self.view_is) c.self.invariant.arena.timed c.self.invariant.arena.laid c.self.invariant.roomy c.requires.live c.requires.places c.requires.arcs c.requires.sums in
    let r = is_replaced (base c.self.inside) c.args.t c.self.inside.arena c.add_pair_places.new.arena c.remove_round.new.arena c.remove.new.self c.self.invariant.arena.timed c.self.invariant.arena.laid c.add_pair_places.ensures.arena.timed c.remove_round.ensures.arena.timed c.remove.ensures.arena.timed c.add_pair_places.ensures.arena.laid may c.add_pair_places.ensures c.remove_round.ensures c.remove.ensures.removed in
    let few : length c.self.inside.arena.trans ≤ PART.trans = omega (arith, c.self.invariant.names_long, c.self.invariant.named.trans_few) in
    let z = is_resized (base c.self.inside) c.args.t c.self.inside.arena c.remove.new.self c.self.invariant.arena.timed c.remove.ensures.arena.timed few may.range may.live r in
    let made = c.size_from-made.ensures ∙ ap (size_from c.remove.new.self) (ap (λ x. x.places) c.edit_start-start.ensures) in
    omega (arith, ap (λ (s : Size). s.arcs) z.whole, ap (λ (s : Size). s.arcs) c.plus.ensures, ap (λ (s : Size). s.arcs) made, ap (λ (s : Size). s.arcs) c.size_round-removed.ensures, ap (λ (s : Size). s.arcs) c.self.invariant.sized.now_sized)

pub invariant_of-self : goal.invariant_of-self
invariant_of-self c =
    let may = may_replace (base c.self.inside) c.args.t (c.self.inside.edit_room - length c.self.inside.starts.items) c.self.inside.arena c.args.self.now (ap (λ v. v.now) c.self.view_is) (ap (λ v. v.spare) c.self.view_is) c.self.invariant.arena.timed c.self.invariant.arena.laid c.self.invariant.roomy c.requires.live c.requires.places c.requires.arcs c.requires.sums in
    let r = is_replaced (base c.self.inside) c.args.t c.self.inside.arena c.add_pair_places.new.arena c.remove_round.new.arena c.remove.new.self c.self.invariant.arena.timed c.self.invariant.arena.laid c.add_pair_places.ensures.arena.timed c.remove_round.ensures.arena.timed c.remove.ensures.arena.timed c.add_pair_places.ensures.arena.laid may c.add_pair_places.ensures c.remove_round.ensures c.remove.ensures.removed in
    let l = c.self.inside.arena in
    let m : EditStart = c.edit_start-start.result in
    let few : length c.self.inside.arena.trans ≤ PART.trans = omega (arith, c.self.invariant.names_long, c.self.invariant.named.trans_few) in
    let z = is_resized (base c.self.inside) c.args.t c.self.inside.arena c.remove.new.self c.self.invariant.arena.timed c.remove.ensures.arena.timed few may.range may.live r in
    let made = c.size_from-made.ensures ∙ ap (size_from c.remove.new.self) (ap (λ x. x.places) c.edit_start-start.ensures) in
    let starts = c.self.inside.starts.items in
    let x = base c.self.inside in
    let l' = c.remove.new.self in
    let here =
    c.minus-self-inside.ensures ∙ (λ i. minus ((c.plus.ensures ∙ (λ j. plus (c.self.invariant.sized.now_sized j) (made j))) i) (c.size_round-removed.ensures i))
    ∙ minus_plus (size_of (now_of x l')) (size_round l c.args.t) (plus (size_of (now_of x l)) (size_from l' (length l.places))) z.whole in
    let past = ap (past_of x l') c.push_reserved.ensures.items ∙ past_more l l' starts m c.edit_start-start.ensures r.later x c.self.invariant.are_starts in
    let sized = sized_more (editing c.self.inside) c.self.inside.size c.minus-self-inside.result c.self.inside.sizes.items c.push_reserved-2.new.self.items (now_of x l') (past_of x l' c.push_reserved.new.self.items) c.self.invariant.sized past here c.push_reserved-2.ensures.items in
    record {
      arena = c.remove.ensures.arena;
      are_starts = rw c.push_reserved.ensures.items (starts_more l c.remove.new.self starts m c.edit_start-start.ensures r.later c.self.invariant.are_starts c.remove.ensures.arena.laid c.remove.ensures.arena.timed r.all_cells);
      room = omega (arith, c.self.invariant.room, c.push_reserved.ensures.capacity);
      removals_long = omega (arith, c.self.invariant.removals_long, ap (λ r. r.places) r.later.rooms, r.later.trans, ap (λ r. r.removals) r.later.rooms);
      long = omega (arith, ap length c.push_reserved.ensures.items, length-append starts (m ∷ []), ap (λ v. v.spare.edits) c.self.view_is, c.requires.room);
      roomy = omega (arith, c.self.invariant.roomy, may.places, may.arcs, r.places, r.cells, ap (λ r. r.places) r.later.rooms, ap (λ r. r.cells) r.later.rooms, c.self.invariant.arena.laid.places);
      names_long = c.self.invariant.names_long ∙ sym r.later.trans;
      named = c.self.invariant.named;
      known_room = c.self.invariant.known_room;
      sizes_room = omega (arith, c.self.invariant.sizes_room, c.push_reserved-2.ensures.capacity);
      sized = record { now_sized = sized.0; past_sized = sized.1 };
    }

pub returns-clause-now : goal.returns-clause-now
returns-clause-now c =
    let may = may_replace (base c.self.inside) c.args.t (c.self.inside.edit_room - length c.self.inside.starts.items) c.self.inside.arena c.args.self.now (ap (λ v. v.now) c.self.view_is) (ap (λ v. v.spare) c.self.view_is) c.self.invariant.arena.timed c.self.invariant.arena.laid c.self.invariant.roomy c.requires.live c.requires.places c.requires.arcs c.requires.sums in
    let r = is_replaced (base c.self.inside) c.args.t c.self.inside.arena c.add_pair_places.new.arena c.remove_round.new.arena c.remove.new.self c.self.invariant.arena.timed c.self.invariant.arena.laid c.add_pair_places.ensures.arena.timed c.remove_round.ensures.arena.timed c.remove.ensures.arena.timed c.add_pair_places.ensures.arena.laid may c.add_pair_places.ensures c.remove_round.ensures c.remove.ensures.removed in
    r.now ∙ ap (λ v. contracted v.now c.args.t) c.self.view_is

pub returns-clause-past : goal.returns-clause-past
returns-clause-past c =
    let may = may_replace (base c.self.inside) c.args.t (c.self.inside.edit_room - length c.self.inside.starts.items) c.self.inside.arena c.args.self.now (ap (λ v. v.now) c.self.view_is) (ap (λ v. v.spare) c.self.view_is) c.self.invariant.arena.timed c.self.invariant.arena.laid c.self.invariant.roomy c.requires.live c.requires.places c.requires.arcs c.requires.sums in
    let r = is_replaced (base c.self.inside) c.args.t c.self.inside.arena c.add_pair_places.new.arena c.remove_round.new.arena c.remove.new.self c.self.invariant.arena.timed c.self.invariant.arena.laid c.add_pair_places.ensures.arena.timed c.remove_round.ensures.arena.timed c.remove.ensures.arena.timed c.add_pair_places.ensures.arena.laid may c.add_pair_places.ensures c.remove_round.ensures c.remove.ensures.removed in
    let l = c.self.inside.arena in
    let m : EditStart = c.edit_start-start.result in
    ap (past_of (base c.self.inside) c.remove.new.self) c.push_reserved.ensures.items
    ∙ past_more l c.remove.new.self c.self.inside.starts.items m c.edit_start-start.ensures r.later (base c.self.inside) c.self.invariant.are_starts
    ∙ ap (λ v. v.past ++ v.now ∷ []) c.self.view_is

pub returns-clause-spare : goal.returns-clause-spare
returns-clause-spare c =
    let may = may_replace (base c.self.inside) c.args.t (c.self.inside.edit_room - length c.self.inside.starts.items) c.self.inside.arena c.args.self.now (ap (λ v. v.now) c.self.view_is) (ap (λ v. v.spare) c.self.view_is) c.self.invariant.arena.timed c.self.invariant.arena.laid c.self.invariant.roomy c.requires.live c.requires.places c.requires.arcs c.requires.sums in
    let r = is_replaced (base c.self.inside) c.args.t c.self.inside.arena c.add_pair_places.new.arena c.remove_round.new.arena c.remove.new.self c.self.invariant.arena.timed c.self.invariant.arena.laid c.add_pair_places.ensures.arena.timed c.remove_round.ensures.arena.timed c.remove.ensures.arena.timed c.add_pair_places.ensures.arena.laid may c.add_pair_places.ensures c.remove_round.ensures c.remove.ensures.removed in
    let t = c.args.t in
    let m : EditStart = c.edit_start-start.result in
    record {
      edits = omega (arith, ap length c.push_reserved.ensures.items, length-append c.self.inside.starts.items (m ∷ []), ap (λ v. v.spare.edits) c.self.view_is);
      places = omega (arith, r.places, ap (λ r. r.places) r.later.rooms, ap (λ v. v.spare.places) c.self.view_is, ap (λ v. new_places v.now t) c.self.view_is);
      arcs = omega (arith, r.places, r.cells, ap (λ r. r.places) r.later.rooms, ap (λ r. r.cells) r.later.rooms, ap (λ v. v.spare.arcs) c.self.view_is, ap (λ v. new_places v.now t) c.self.view_is, ap (λ v. new_arcs v.now t) c.self.view_is, may.places, c.self.invariant.arena.laid.places);
    }

pub remove_round-requires-clause-arena : goal.remove_round-requires-clause-arena
remove_round-requires-clause-arena c = c.add_pair_places.ensures.arena
