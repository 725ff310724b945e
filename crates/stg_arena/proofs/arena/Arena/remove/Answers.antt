use Rattle.std.proofs.Common.{rules, ◌≡◌, ◌<◌, ◌++◌, ◌∷◌, [], ℕ, length, subst, sym, ap, ◌∙◌, arith}
use Rattle.stg_arena.specs.declared.end.End.TheVariants.{Place}
use Rattle.stg_arena.specs.Ends.{other}
use Rattle.stg_arena.specs.inner.Links.{links_of}
use Rattle.stg_arena.specs.inner.RingChange.{CanUnlink, IsRingUnlinked}
use Rattle.stg_arena.specs.LinkHistory.{frame_at}
use Rattle.stg_arena.specs.ArenaView.{Layout, none, removed_at, count_of, side, times_of, head_of, IsRemoved}
use Rattle.stg_arena.specs.inner.Removing.{places_removed_at, trans_removed_at}
use Rattle.stg_arena.specs.inner.ArenaFields.{layout}
use Rattle.stg_arena.proofs.RemovalTimes.{removed_node, laid_on, timed_on}
use Rattle.stg_arena.proofs.ArenaInvariant.{AreHeld, held_by, held_removed, to_unlink}
use Rattle.stg_arena.proofs.arena.Arena.remove.Goals as goal

pub unlink_ring-requires : goal.unlink_ring-requires
unlink_ring-requires c =
    let l = layout c.self.inside in
    let b = c.args.end in
    let k = c.args.node in
    let by_place = c.self.inside.by_place.items in
    let by_trans = c.self.inside.by_trans.items in
    let R : Layout → Type 0 = λ l. k < count_of l b in
    let live : removed_at l b k ≡ none = ap (λ l. removed_at l b k) c.self.view_is ∙ c.requires.live in
    let head : head_of l b k ≡ c.head-head.result = ap (λ l. head_of l b k) c.self.view_is ∙ sym c.head-head.ensures in
    let held : AreHeld Place l by_place by_trans = record { own = c.self.invariant.by_place; other = c.self.invariant.by_trans } in
    let f = frame_at (side l.cells b) (side l.cells (other b)) (times_of l) (length l.removals) in
    let H : ℕ → Type 0 = λ h. CanUnlink f (links_of b by_place by_trans) (links_of (other b) by_place by_trans) h in
    (f, subst H head (to_unlink b k l (links_of b by_place by_trans) (links_of (other b) by_place by_trans) c.self.invariant.arena.laid c.self.invariant.arena.timed (held_by b l by_place by_trans held) (subst R (sym c.self.view_is) c.requires.in_range) live))

pub invariant_of-self : goal.invariant_of-self
invariant_of-self c =
    let l = layout c.self.inside in
    let b = c.args.end in
    let k = c.args.node in
    let by_place = c.self.inside.by_place.items in
    let by_trans = c.self.inside.by_trans.items in
    let R : Layout → Type 0 = λ l. k < count_of l b in
    let S : Layout → Type 0 = λ l. length l.removals < l.rooms.removals in
    let range : k < count_of l b = subst R (sym c.self.view_is) c.requires.in_range in
    let live : removed_at l b k ≡ none = ap (λ l. removed_at l b k) c.self.view_is ∙ c.requires.live in
    let head : head_of l b k ≡ c.head-head.result = ap (λ l. head_of l b k) c.self.view_is ∙ sym c.head-head.ensures in
    let held : AreHeld Place l by_place by_trans = record { own = c.self.invariant.by_place; other = c.self.invariant.by_trans } in
    let cells : c.len-cells.result ≡ length c.self.inside.cells.items = search rules in
    let moment : c.len-moment.result ≡ length c.self.inside.removals.items = search rules in
    let l' : Layout = record l { places = c.set_removed_at.new.places.items; trans = c.set_removed_at.new.trans.items; removals = c.push_reserved.new.self.items } in
    let removed : IsRemoved b k l l' = removed_node b k l l'.places l'.trans l'.removals (c.set_removed_at.ensures.places ∙ ap (λ m. places_removed_at b k m l.places) moment) (c.set_removed_at.ensures.trans ∙ ap (λ m. trans_removed_at b k m l.trans) moment) (c.push_reserved.ensures.items ∙ (λ i. l.removals ++ record { end = b; node = k; cells = cells i } ∷ [])) range live in
    let f = frame_at (side l.cells b) (side l.cells (other b)) (times_of l) (length l.removals) in
    let H : ℕ → Type 0 = λ h. CanUnlink f (links_of b by_place by_trans) (links_of (other b) by_place by_trans) h in
    let can = subst H head (to_unlink b k l (links_of b by_place by_trans) (links_of (other b) by_place by_trans) c.self.invariant.arena.laid c.self.invariant.arena.timed (held_by b l by_place by_trans held) range live) in
    let by_place' = c.unlink_ring.new.by_place.items in
    let by_trans' = c.unlink_ring.new.by_trans.items in
    let P : ℕ → Type 0 = λ h. IsRingUnlinked f h f.size (links_of (other b) by_place by_trans) (links_of (other b) by_place' by_trans') in
    let now = held_removed b k l l' by_place by_trans by_place' by_trans' removed c.self.invariant.arena.laid c.self.invariant.arena.timed held c.unlink_ring.ensures.kept c.unlink_ring.ensures.len (subst P (sym head) (c.unlink_ring.ensures.ring f can)) in
    record {
      arena = record { laid = laid_on b k l l' removed c.self.invariant.arena.laid; timed = timed_on b k l l' removed c.self.invariant.arena.timed (subst S (sym c.self.view_is) c.requires.room) };
      by_place = now.own;
      by_trans = now.other;
      cells_room = c.self.invariant.cells_room;
      by_place_room = omega (arith, c.self.invariant.by_place_room, c.unlink_ring.ensures.by_place_room);
      by_trans_room = omega (arith, c.self.invariant.by_trans_room, c.unlink_ring.ensures.by_trans_room);
      places_room = omega (arith, c.self.invariant.places_room, c.set_removed_at.ensures.room);
      removals_room = omega (arith, c.self.invariant.removals_room, c.push_reserved.ensures.capacity);
    }

pub returns-clause-removed : goal.returns-clause-removed
returns-clause-removed c =
    let l = layout c.self.inside in
    let b = c.args.end in
    let k = c.args.node in
    let R : Layout → Type 0 = λ l. k < count_of l b in
    let cells : c.len-cells.result ≡ length c.self.inside.cells.items = search rules in
    let moment : c.len-moment.result ≡ length c.self.inside.removals.items = search rules in
    let removed = removed_node b k l c.set_removed_at.new.places.items c.set_removed_at.new.trans.items c.push_reserved.new.self.items (c.set_removed_at.ensures.places ∙ ap (λ m. places_removed_at b k m l.places) moment) (c.set_removed_at.ensures.trans ∙ ap (λ m. trans_removed_at b k m l.trans) moment) (c.push_reserved.ensures.items ∙ (λ i. l.removals ++ record { end = b; node = k; cells = cells i } ∷ [])) (subst R (sym c.self.view_is) c.requires.in_range) (ap (λ l. removed_at l b k) c.self.view_is ∙ c.requires.live) in
    let P : Layout → Type 0 = λ m. IsRemoved b k m (record l { places = c.set_removed_at.new.places.items; trans = c.set_removed_at.new.trans.items; removals = c.push_reserved.new.self.items }) in
    subst P c.self.view_is removed

pub returns-clause-arena : goal.returns-clause-arena
returns-clause-arena c = (invariant_of-self c).arena
