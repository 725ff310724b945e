use Rattle.std.proofs.Common.{◌≤◌, ◌∷◌, sym, ◌∙◌, subst, arith}
use Rattle.std.proofs.lemmas.Bool.{false≢true}
use Rattle.std.proofs.lemmas.List.Sorted.{sum_by_pushed}
use Rattle.stg_edit.specs.Replacing.{new_places}
use Rattle.stg_contract.specs.inner.Watches.{IsOutlook, IsUnderWay, toil_of}
use Rattle.stg_contract.proofs.WatchSteps.{passed, dropped, weighed, reordered, put_aside, toil_weighed}
use Rattle.stg_contract.proofs.cheapest.advance.Goals as goal

pub returns-then-not-is_kept-clause-way : goal.returns-then-not-is_kept-clause-way
returns-then-not-is_kept-clause-way c old way =
    passed c.args.editor.now.now old c.args.least.now c.args.t c.args.places c.args.queue.now.waiting c.args.queue.now.aside way
    (λ e. false≢true (sym c.if-not-is_kept.true ∙ c.is_kept.ensures.1 e))

pub returns-then-not-is_dummy-clause-way : goal.returns-then-not-is_dummy-clause-way
returns-then-not-is_dummy-clause-way c old way =
    dropped c.args.editor.now.now old c.args.least.now c.args.t c.args.places c.args.queue.now.waiting c.args.queue.now.aside way
    (λ d. absurd (false≢true (sym c.if-not-is_dummy.true ∙ c.is_dummy.ensures.1 d)))

pub returns-then-places-made-clause-way : goal.returns-then-places-made-clause-way
returns-then-places-made-clause-way c old way =
    let g = c.args.editor.now.now in
    let made = c.count_new_places-made.result in
    let most : made ≤ new_places g c.args.t = omega (arith, c.count_new_places-made.ensures) in
    subst (IsUnderWay g old _ c.push.new.self.waiting) (sym c.push.ensures.aside)
    (weighed g old c.args.least.now c.args.t c.args.places c.args.queue.now.waiting c.args.queue.now.aside way made c.push.new.self.waiting (c.is_kept.ensures.0 c.if-not-is_kept.false) most c.push.ensures.waiting)

pub returns-then-places-made-clause-less : goal.returns-then-places-made-clause-less
returns-then-places-made-clause-less c e =
    let g = c.args.editor.now.now in
    let made = c.count_new_places-made.result in
    omega (
      arith,
      sum_by_pushed (toil_of g) (made, c.args.t) c.args.queue.now.waiting c.push.new.self.waiting c.push.ensures.waiting,
      toil_weighed g c.args.places made c.args.t c.if-places-made.true c.count_new_places-made.ensures,
    )

pub returns-in-Ready-clause-way : goal.returns-in-Ready-clause-way
returns-in-Ready-clause-way c old way =
    let g = c.args.editor.now.now in
    subst (IsUnderWay g old c.args.least.now c.push-in-Ready.new.self.waiting) (sym c.push-in-Ready.ensures.aside)
    (reordered g old c.args.least.now ((c.args.places, c.args.t) ∷ c.args.queue.now.waiting) c.push-in-Ready.new.self.waiting c.args.queue.now.aside way c.push-in-Ready.ensures.waiting)

pub returns-in-Open-clause-way : goal.returns-in-Open-clause-way
returns-in-Open-clause-way c old way =
    let g = c.args.editor.now.now in
    let left = subst (IsOutlook g c.args.t) c.in-Open.is c.outlook_of.ensures in
    subst (λ waiting. IsUnderWay g old c.args.least.now waiting c.put_aside.new.self.aside) (sym c.put_aside.ensures.waiting)
    (put_aside g old c.args.least.now c.args.t c.args.places c.args.queue.now.waiting c.args.queue.now.aside way c.put_aside.new.self.aside (λ k. left.1 k.contractible) c.put_aside.ensures.aside)

pub returns-in-Hopeless-clause-way : goal.returns-in-Hopeless-clause-way
returns-in-Hopeless-clause-way c old way =
    let g = c.args.editor.now.now in
    let hopeless = subst (IsOutlook g c.args.t) c.in-Hopeless.is c.outlook_of.ensures in
    dropped g old c.args.least.now c.args.t c.args.places c.args.queue.now.waiting c.args.queue.now.aside way (λ d. hopeless)
