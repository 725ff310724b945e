use Rattle.std.proofs.Common.{◌≡◌, ◌-◌, ◌≤◌, All, List, length}
use Rattle.stg_net.specs.Net.{NetLists}
use Rattle.stg_laws.specs.PlainGroups.{Group}
use Rattle.stg_crew.specs.Seats.{view_of, IsOf}
use Rattle.stg_crew.specs.inner.Crew.{IsThrough, HasDrawnParts, AreTakenIn}
use Rattle.stg_crew.proofs.crew.join_all.Given as goal

abbrev pub decreases-loop-worker : goal.decreases-loop-worker
decreases-loop-worker l = length l.workers.items

abbrev pub invariant-loop-worker : goal.invariant-loop-worker
invariant-loop-worker l =
    let hired = l.initial.workers.items in
    let first = l.initial.slots.items in
    record {
      of : IsOf l.seat l.claims;
      through : All (IsThrough l.claims (length first)) l.workers.items;
      parts : (n : NetLists) (groups : List Group) → All (HasDrawnParts n groups) hired → All (HasDrawnParts n groups) l.workers.items;
      taken : AreTakenIn hired first l.slots.items (length hired - length l.workers.items) (view_of l.seat);
      long : length l.slots.items ≡ length first;
      less : length l.workers.items ≤ length hired;
      split : (view_of l.seat).split ≡ length hired;
    }
