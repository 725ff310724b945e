use Rattle.std.proofs.Common.{List, length, subst, sym, ap, ◌∙◌}
use Rattle.std.proofs.lemmas.List.{with_items_is}
use Rattle.stg_arena.specs.declared.links.Link.{Link}
use Rattle.stg_arena.specs.inner.RingChange.{IsRingUnlinked}
use Rattle.stg_arena.proofs.links.unlink_ring.Goals as goal

pub returns-in-Place-clause-ring : goal.returns-in-Place-clause-ring
returns-in-Place-clause-ring c =
    let old = c.args.by_trans.now.items in
    rw c.in-Place.is (λ f can.
    let P : List Link → Type 0 = λ xs. IsRingUnlinked f c.args.head f.size xs c.unlink_all.new.other in
    rw (with_items_is c.args.by_trans.now c.unlink_all.new.other (c.unlink_all.auto.other ∙ ap length c.deref_mut.ensures.value ∙ sym c.args.by_trans.now.ok.0))
    (subst P c.deref_mut.ensures.value (c.unlink_all.ensures f (rw (c.deref.ensures.value, c.deref_mut.ensures.value) can))))

pub returns-in-Trans-clause-ring : goal.returns-in-Trans-clause-ring
returns-in-Trans-clause-ring c =
    let old = c.args.by_place.now.items in
    rw c.in-Trans.is (λ f can.
    let P : List Link → Type 0 = λ xs. IsRingUnlinked f c.args.head f.size xs c.unlink_all-in-Trans.new.other in
    rw (with_items_is c.args.by_place.now c.unlink_all-in-Trans.new.other (c.unlink_all-in-Trans.auto.other ∙ ap length c.deref_mut-in-Trans.ensures.value ∙ sym c.args.by_place.now.ok.0))
    (subst P c.deref_mut-in-Trans.ensures.value (c.unlink_all-in-Trans.ensures f (rw (c.deref-in-Trans.ensures.value, c.deref_mut-in-Trans.ensures.value) can))))
