use Rattle.std.proofs.Common.{◌≡◌, ◌<◌, ◌∷◌, ◌++◌, [], List, ℕ, All, length, sym, ap, ◌∙◌, subst, arith}
use Rattle.stg_crew.specs.Claims.{AreGroups}
use Rattle.stg_crew.specs.Drawing.{IsDrawnPart, groups_of}
use Rattle.stg_crew.specs.Parts.{IsPartOf, group_in}
use Rattle.stg_crew.specs.Seats.{view_of}
use Rattle.stg_crew.specs.declared.view.SeatView.{SeatView}
use Rattle.stg_crew.specs.declared.worker.Drawn.{Drawn}
use Rattle.stg_crew.proofs.Drawings.{groups-more, All-more, last_below}
use Rattle.stg_crew.proofs.worker.draw_all.Goals as goal

pub loop-number-init : goal.loop-number-init
loop-number-init g c =
    let ok = c.draw-number.ensures.ok in
    let r = c.draw-number.result in
    let none = c.new-all.ensures in
    record {
      of = c.draw-number.ensures.kept;
      worker = ap (λ (v : SeatView). v.kind) ok ∙ c.requires.worker;
      groups = ap (λ (v : SeatView). v.groups) ok ∙ c.requires.groups;
      list = ap (λ (v : SeatView). v.list) ok ∙ ap (λ (l : List ℕ). l ++ r ∷ []) c.requires.nothing ∙ sym (ap (λ (ds : List Drawn). groups_of ds ++ r ∷ []) none);
      are_groups = subst (λ (ds : List Drawn). AreGroups (length c.args.groups.now) (groups_of ds)) (sym none) (λ k d l. absurd (omega (arith, l)));
      parts = subst (All (IsDrawnPart c.args.spec.now.net c.args.groups.now)) (sym none) (λ k d l. absurd (omega (arith, l)));
    }

pub draw-number-requires-in-loop-number-clause-goes_on : goal.draw-number-requires-in-loop-number-clause-goes_on
draw-number-requires-in-loop-number-clause-goes_on g c =
    let before = c.loop-number.invariant in
    let count = length c.args.groups.now in
    let low : c.loop-number.number < count = omega (arith, c.loop-number-test.true) in
    let below = All-more (λ k. k < count) (groups_of c.loop-number.all) c.loop-number.number before.are_groups low in
    subst (λ k. AreGroups k (view_of c.loop-number.seat).list) (sym before.groups) (subst (AreGroups count) (sym before.list) below)

pub loop-number-smaller : goal.loop-number-smaller
loop-number-smaller g c =
    let r = c.draw-number-in-loop-number.result in
    let above = subst (λ (l : List ℕ). All (λ x. x < r) l) c.loop-number.invariant.list c.draw-number-in-loop-number.ensures.greatest in
    let up = last_below r c.loop-number.number (groups_of c.loop-number.all) above in
    omega (arith, up, c.loop-number-test.true)

pub loop-number-preserved : goal.loop-number-preserved
loop-number-preserved g c =
    let before = c.loop-number.invariant in
    let ok = c.draw-number-in-loop-number.ensures.ok in
    let r = c.draw-number-in-loop-number.result in
    let d = c.in_ok-drawn.drawn in
    let all = c.loop-number.all in
    let n = c.args.spec.now.net in
    let groups = c.args.groups.now in
    let number = c.loop-number.number in
    let pushed = c.in_ok-push.ensures.ok in
    let same : d.group ≡ number = c.in_ok-drawn.ensures.group in
    let drew : groups_of c.push.new.self ≡ groups_of all ++ number ∷ [] =
    ap (λ (ds : List Drawn). groups_of ds) pushed ∙ groups-more all d ∙ ap (λ k. groups_of all ++ k ∷ []) same in
    let there : d.group < length groups = omega (arith, same, c.loop-number-test.true) in
    let part : IsPartOf n (group_in groups d.group) d.part = subst (λ k. IsPartOf n (group_in groups k) d.part) (sym same) c.in_ok-drawn.ensures.part in
    record {
      of = c.draw-number-in-loop-number.ensures.kept;
      worker = ap (λ (v : SeatView). v.kind) ok ∙ before.worker;
      groups = ap (λ (v : SeatView). v.groups) ok ∙ before.groups;
      list = ap (λ (v : SeatView). v.list) ok ∙ ap (λ (l : List ℕ). l ++ r ∷ []) (before.list ∙ sym drew);
      are_groups = subst (AreGroups (length groups)) (sym drew) (All-more (λ k. k < length groups) (groups_of all) number before.are_groups (omega (arith, c.loop-number-test.true)));
      parts = subst (All (IsDrawnPart n groups)) (sym pushed) (All-more (IsDrawnPart n groups) all d before.parts (record { there = there; part = part }));
    }
