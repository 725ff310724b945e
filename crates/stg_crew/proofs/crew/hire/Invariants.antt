use Rattle.std.proofs.Common.{◌≡◌, [], All, length}
use Rattle.stg_crew.specs.Claims.{view}
use Rattle.stg_crew.specs.Seats.{view_of, IsOf}
use Rattle.stg_crew.specs.declared.kind.SeatKind.TheVariants.{Collecting}
use Rattle.stg_crew.specs.inner.Crew.{IsFresh}
use Rattle.stg_crew.proofs.crew.hire.Given as goal

abbrev pub invariant-loop-worker : goal.invariant-loop-worker
invariant-loop-worker l = record {
  of : IsOf l.seat l.claims;
  now : view_of l.seat ≡ view Collecting [] l._worker 0 (view_of l.initial.seat).groups;
  fresh : All (IsFresh l.claims (view_of l.initial.seat).groups) l.all.items;
  count : length l.all.items ≡ l._worker;
}
