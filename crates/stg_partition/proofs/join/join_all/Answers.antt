use Rattle.std.proofs.Common.{◌≡◌, ◌<◌, false, List, length, get_or, sym, ap, subst, ◌∙◌}
use Rattle.std.proofs.lemmas.List.{get_or_default}
use Rattle.stg_net.specs.declared.arc.NetArc.{NetArc}
use Rattle.stg_partition.proofs.Leading.{joining_more}
use Rattle.stg_partition.proofs.join.join_all.Goals as goal

pub loop-arc-preserved : goal.loop-arc-preserved
loop-arc-preserved c =
    let none : NetArc = record { place = 0; trans = 0; into = false; weight = 0 } in
    let n = c.args.net.now in
    let items = c.arcs-arc-items.result.now in
    let i = c.loop-arc.arc-index in
    let Inside : List NetArc → Type 0 = λ xs. i < length xs in
    let inside = subst Inside c.arcs-arc-items.ensures.arcs c.loop-arc-test.true in
    let here : (d : NetArc) → get_or n.arcs i d ≡ get_or items i none = λ d. get_or_default n.arcs i d none inside ∙ ap (λ (xs : List NetArc). get_or xs i none) (sym c.arcs-arc-items.ensures.arcs) in
    joining_more n i c.loop-arc.leaders c.join_arc.new.leaders c.loop-arc.takers c.join_arc.new.takers (get_or items i none) c.arcs-arc-items.ensures.net inside here c.loop-arc.invariant c.join_arc.auto.leaders c.join_arc.ensures.takers c.join_arc.ensures.leaders
