use Rattle.std.proofs.Common.{List, IfOk, Result, length, subst}
use Rattle.stg_net.specs.declared.no_memory.NoMemory.{NoMemory}
use Rattle.stg_crew.specs.Drawing.{HasDrawn}
use Rattle.stg_crew.specs.Seats.{view_of}
use Rattle.stg_crew.specs.declared.worker.Drawn.{Drawn}
use Rattle.stg_crew.proofs.Placing.{drawn_below}
use Rattle.stg_crew.proofs.crew.join_one.Goals as goal

pub place_all-requires : goal.place_all-requires
place_all-requires c =
    let groups = length c.args.slots.now.items in
    let all = c.in_ok-drawn.field-0 in
    let drew : HasDrawn groups all (view_of c.args.worker.seat).list =
    subst (λ (r : Result (List Drawn) NoMemory). IfOk r (λ ds. HasDrawn groups ds (view_of c.args.worker.seat).list)) c.in_ok-drawn.was c.requires.through.drawn in
    drawn_below groups all drew.are_groups
