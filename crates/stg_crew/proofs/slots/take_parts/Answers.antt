use Rattle.std.proofs.Common.{◌++◌, Option, IsSome, Some, List, All, map, sym, ap, ◌∙◌, subst}
use Rattle.std.specs.Vec.Iter.{into_iter_items}
use Rattle.stg_derive.specs.declared.part.Part.{Part}
use Rattle.stg_crew.proofs.Placing.{goes_out, All-rest}
use Rattle.stg_crew.proofs.slots.take_parts.Goals as goal

pub loop-slot-preserved : goal.loop-slot-preserved
loop-slot-preserved c =
    let rest = into_iter_items c.next.new.self in
    let step = c.in-Some.ensures.steps.0 in
    let before = c.loop-slot.invariant in
    record {
      parts = ap (λ (ps : List Part). map (λ (part : Part). Some part) ps ++ rest) c.in_ok-push.ensures.ok
          ∙ goes_out c.loop-slot.parts c.unwrap.result c.in-Some.slot rest c.unwrap.ensures
          ∙ ap (λ (s : List (Option Part)). map (λ (part : Part). Some part) c.loop-slot.parts ++ s) (sym step)
          ∙ before.parts;
      full = All-rest IsSome c.in-Some.slot rest (subst (All IsSome) step before.full);
    }
