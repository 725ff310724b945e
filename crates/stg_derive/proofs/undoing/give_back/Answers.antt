use Rattle.std.proofs.Common.{◌≡◌, ◌∙◌, None, length, get_or, refl, sym, ap, subst, arith}
use Rattle.std.specs.Global.{Vec}
use Rattle.std.specs.Vec.{with_items}
use Rattle.std.proofs.lemmas.List.{with_items_is}
use Rattle.stg_net.specs.Initial.{initial}
use Rattle.stg_derive.specs.declared.attempt.Attempt.{Attempt}
use Rattle.stg_derive.specs.inner.UnderWay.{noted_below}
use Rattle.stg_derive.proofs.UnderWay.{steps_short}
use Rattle.stg_derive.proofs.Noting.{length-drafts}
use Rattle.stg_derive.proofs.Undone.{IsUndoing, IsGivenBack, undoing_begins, undoing_goes_on, undoing_ends, given_back}
use Rattle.stg_derive.proofs.undoing.give_back.Goals as goal

pub loop-attempt-init : goal.loop-attempt-init
loop-attempt-init c =
    let n = c.args.net.now in
    let a = c.args.attempt.now in
    let b : Attempt = record a { known = c.in_ok-attempt.field-0 } in
    subst (λ k. IsUndoing n a b c.args.signal k) (sym c.count_kept-kept.ensures)
    (undoing_begins n c.requires.within c.requires.no_conflict c.requires.is_net a c.args.signal c.in_ok-attempt.field-0 c.requires.under_way c.requires.there c.requires.counted c.in_ok-attempt.ensures)

pub undo_last-requires-clause-past : goal.undo_last-requires-clause-past
undo_last-requires-clause-past c =
    ap length c.loop-attempt.invariant.past ∙ length-drafts (initial c.args.net.now c.args.attempt.now.known) c.loop-attempt.attempt.steps.items

pub loop-attempt-preserved : goal.loop-attempt-preserved
loop-attempt-preserved c =
    let e = c.undo_last.ensures in
    undoing_goes_on c.args.net.now c.requires.within c.requires.no_conflict c.requires.is_net c.args.attempt.now c.loop-attempt.attempt c.undo_last.new.attempt c.args.signal c.count_kept-kept.result c.loop-attempt.invariant (omega (arith, c.loop-attempt-test.true, c.len.ensures))
    (record { editor = e.editor; steps = e.steps; front = e.front; undone = e.undone; signals = e.signals; known = e.known; noted = ap (λ (v : Vec _). v.items) e.noted })

pub overflow_cast-kept : goal.overflow_cast-kept
overflow_cast-kept c =
    let a = c.args.attempt.now in
    let i = c.loop-attempt.invariant in
    omega (arith, i.enough, i.few, steps_short c.args.net.now a.known a.steps.items c.requires.within c.requires.under_way.plain)

pub show-requires : goal.show-requires
show-requires c = omega (arith, c.requires.there, ap length c.loop-attempt.invariant.signals)

pub returns-clause-under_way : goal.returns-clause-under_way
returns-clause-under_way c =
    let n = c.args.net.now in
    let a = c.args.attempt.now in
    let v = c.loop-attempt.attempt.first_undone in
    let ws = c.forget_from.new.noted in
    let long = c.forget_from.ensures.len ∙ ap length c.deref_mut.ensures.value in
    let same : (with_items v ws).items ≡ ws = with_items_is v ws (long ∙ sym v.ok.0) in
    let b : Attempt = record { known = c.loop-attempt.attempt.known; editor = c.show.new.self; steps = c.loop-attempt.attempt.steps; first_undone = with_items v ws; watches = c.in_ok-attempt-2.field-0 } in
    let done = undoing_ends n c.requires.within c.requires.no_conflict c.requires.is_net a c.loop-attempt.attempt b c.args.signal c.count_kept-kept.result c.loop-attempt.invariant (omega (arith, c.loop-attempt-test.false, c.len.ensures))
    refl c.show.ensures.now c.show.ensures.past c.show.ensures.signals refl (ap length same ∙ long)
    (λ k. ap (λ xs. get_or xs k None) same ∙ c.forget_from.ensures.noted k ∙ ap (λ xs. noted_below c.count_kept-kept.result (get_or xs k None)) c.deref_mut.ensures.value) in
    given_back n c.requires.within c.requires.no_conflict c.requires.is_net a b c.args.signal c.requires.under_way c.requires.there (subst (λ k. IsGivenBack n a b c.args.signal k) c.count_kept-kept.ensures done)

pub returns-clause-known : goal.returns-clause-known
returns-clause-known c = c.loop-attempt.invariant.known

pub returns-clause-undone : goal.returns-clause-undone
returns-clause-undone c =
    let i = c.loop-attempt.invariant in
    omega (arith, c.show.ensures.undone, i.undone, i.enough, c.loop-attempt-test.false, c.len.ensures, c.count_kept-kept.ensures)
