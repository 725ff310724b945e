use Rattle.std.proofs.Common.{◌≡◌, ◌-◌, ℕ, length, subst, sym, ap, ◌∙◌, arith}
use Rattle.stg_arena.specs.declared.end.End.TheVariants.{Place}
use Rattle.stg_arena.specs.Ends.{other}
use Rattle.stg_arena.specs.inner.Links.{links_of}
use Rattle.stg_arena.specs.inner.RingChange.{CanRelink, IsRingRelinked}
use Rattle.stg_arena.specs.LinkHistory.{frame_at}
use Rattle.stg_arena.specs.ArenaView.{Layout, removal_at, side, times_of, head_of, IsRemoved}
use Rattle.stg_arena.specs.inner.ArenaFields.{layout}
use Rattle.stg_arena.proofs.RemovalTimes.{revived_node, laid_back, timed_back}
use Rattle.stg_arena.proofs.ArenaInvariant.{AreHeld, held_by, held_revived, to_relink}
use Rattle.stg_arena.proofs.arena.Arena.revive.Goals as goal

pub relink_ring-requires : goal.relink_ring-requires
relink_ring-requires c =
    let l' = layout c.self.inside in
    let b = c.args.end in
    let k = c.args.node in
    let by_place = c.self.inside.by_place.items in
    let by_trans = c.self.inside.by_trans.items in
    let R : Layout → Type 0 = λ l. removal_at l (length l.removals - 1) ≡ record { end = b; node = k; cells = length l.cells } in
    let l : Layout = record l' { places = c.set_removed_at.new.places.items; trans = c.set_removed_at.new.trans.items; removals = c.take_last-removal.new.self.items } in
    let removed : IsRemoved b k l l' = revived_node b k l' l.places l.trans l.removals c.take_last-removal.result c.take_last-removal.ensures.items (subst R (sym c.self.view_is) c.requires.last) c.set_removed_at.ensures.places c.set_removed_at.ensures.trans c.self.invariant.arena.timed in
    let head : head_of l b k ≡ c.head-head.result = sym (removed.heads b k) ∙ ap (λ l. head_of l b k) c.self.view_is ∙ sym c.head-head.ensures in
    let held : AreHeld Place l' by_place by_trans = record { own = c.self.invariant.by_place; other = c.self.invariant.by_trans } in
    let f = frame_at (side l.cells b) (side l.cells (other b)) (times_of l) (length l.removals) in
    let H : ℕ → Type 0 = λ h. CanRelink f (links_of b by_place by_trans) (links_of (other b) by_place by_trans) h in
    (f, subst H head (to_relink b k l l' (links_of b by_place by_trans) (links_of (other b) by_place by_trans) removed (laid_back b k l l' removed c.self.invariant.arena.laid) (timed_back b k l l' removed c.self.invariant.arena.timed) (held_by b l' by_place by_trans held)))

pub invariant_of-self : goal.invariant_of-self
invariant_of-self c =
    let l' = layout c.self.inside in
    let b = c.args.end in
    let k = c.args.node in
    let by_place = c.self.inside.by_place.items in
    let by_trans = c.self.inside.by_trans.items in
    let R : Layout → Type 0 = λ l. removal_at l (length l.removals - 1) ≡ record { end = b; node = k; cells = length l.cells } in
    let l : Layout = record l' { places = c.set_removed_at.new.places.items; trans = c.set_removed_at.new.trans.items; removals = c.take_last-removal.new.self.items } in
    let removed : IsRemoved b k l l' = revived_node b k l' l.places l.trans l.removals c.take_last-removal.result c.take_last-removal.ensures.items (subst R (sym c.self.view_is) c.requires.last) c.set_removed_at.ensures.places c.set_removed_at.ensures.trans c.self.invariant.arena.timed in
    let laid = laid_back b k l l' removed c.self.invariant.arena.laid in
    let timed = timed_back b k l l' removed c.self.invariant.arena.timed in
    let head : head_of l b k ≡ c.head-head.result = sym (removed.heads b k) ∙ ap (λ l. head_of l b k) c.self.view_is ∙ sym c.head-head.ensures in
    let held : AreHeld Place l' by_place by_trans = record { own = c.self.invariant.by_place; other = c.self.invariant.by_trans } in
    let f = frame_at (side l.cells b) (side l.cells (other b)) (times_of l) (length l.removals) in
    let H : ℕ → Type 0 = λ h. CanRelink f (links_of b by_place by_trans) (links_of (other b) by_place by_trans) h in
    let can = subst H head (to_relink b k l l' (links_of b by_place by_trans) (links_of (other b) by_place by_trans) removed laid timed (held_by b l' by_place by_trans held)) in
    let by_place' = c.relink_ring.new.by_place.items in
    let by_trans' = c.relink_ring.new.by_trans.items in
    let P : ℕ → Type 0 = λ h. IsRingRelinked f h f.size (links_of (other b) by_place by_trans) (links_of (other b) by_place' by_trans') in
    let now = held_revived b k l l' by_place by_trans by_place' by_trans' removed laid timed held c.relink_ring.ensures.kept c.relink_ring.ensures.len (subst P (sym head) (c.relink_ring.ensures.ring f can)) in
    record {
      arena = record { laid = laid; timed = timed };
      by_place = now.own;
      by_trans = now.other;
      cells_room = c.self.invariant.cells_room;
      by_place_room = omega (arith, c.self.invariant.by_place_room, c.relink_ring.ensures.by_place_room);
      by_trans_room = omega (arith, c.self.invariant.by_trans_room, c.relink_ring.ensures.by_trans_room);
      places_room = omega (arith, c.self.invariant.places_room, c.set_removed_at.ensures.room);
      removals_room = omega (arith, c.self.invariant.removals_room, c.take_last-removal.ensures.capacity);
    }

pub returns : goal.returns
returns c =
    let l' = layout c.self.inside in
    let b = c.args.end in
    let k = c.args.node in
    let R : Layout → Type 0 = λ l. removal_at l (length l.removals - 1) ≡ record { end = b; node = k; cells = length l.cells } in
    let l : Layout = record l' { places = c.set_removed_at.new.places.items; trans = c.set_removed_at.new.trans.items; removals = c.take_last-removal.new.self.items } in
    let removed : IsRemoved b k l l' = revived_node b k l' l.places l.trans l.removals c.take_last-removal.result c.take_last-removal.ensures.items (subst R (sym c.self.view_is) c.requires.last) c.set_removed_at.ensures.places c.set_removed_at.ensures.trans c.self.invariant.arena.timed in
    let P : Layout → Type 0 = λ m. IsRemoved b k l m in
    subst P c.self.view_is removed
