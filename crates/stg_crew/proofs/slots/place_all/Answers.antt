use Rattle.std.proofs.Common.{◌≡◌, ◌<◌, Option, Some, List, All, length, sym, ap, ◌∙◌, subst, arith}
use Rattle.std.proofs.lemmas.List.{length-set}
use Rattle.std.specs.Vec.Iter.{into_iter_items}
use Rattle.stg_derive.specs.declared.part.Part.{Part}
use Rattle.stg_crew.specs.declared.worker.Drawn.{Drawn}
use Rattle.stg_crew.specs.inner.Slots.{placed}
use Rattle.stg_crew.proofs.Placing.{All-rest}
use Rattle.stg_crew.proofs.slots.place_all.Goals as goal

pub place-requires : goal.place-requires
place-requires c =
    let n = length c.loop-drawn.slots.items in
    subst (All (λ (d : Drawn). d.group < n)) c.in-Some.ensures.steps.0 c.loop-drawn.invariant.there 0 c.in-Some.drawn (omega arith)

pub loop-drawn-preserved : goal.loop-drawn-preserved
loop-drawn-preserved c =
    let d = c.in-Some.drawn in
    let slots = c.loop-drawn.slots.items in
    let rest = into_iter_items c.next.new.self in
    let step = c.in-Some.ensures.steps.0 in
    let after = c.place.ensures in
    let long : length slots ≡ length c.place.new.slots.items = sym (length-set slots d.group (Some d.part)) ∙ sym (ap (λ (s : List (Option Part)). length s) after) in
    record {
      placed = ap (λ (s : List (Option Part)). placed s rest) after ∙ ap (placed slots) (sym step) ∙ c.loop-drawn.invariant.placed;
      there = subst (λ n. All (λ (x : Drawn). x.group < n) rest) long
          (All-rest (λ (x : Drawn). x.group < length slots) d rest (subst (All (λ (x : Drawn). x.group < length slots)) step c.loop-drawn.invariant.there));
    }
