use Rattle.std.proofs.Common.{◌≡◌, ◌++◌, ◌∷◌, [], ◌-◌, All, length}
use Rattle.stg_crew.specs.Claims.{AreGroups}
use Rattle.stg_crew.specs.Drawing.{IsDrawnPart, groups_of}
use Rattle.stg_crew.specs.Seats.{view_of, IsOf}
use Rattle.stg_crew.specs.declared.kind.SeatKind.TheVariants.{Worker}
use Rattle.stg_crew.proofs.worker.draw_all.Given as goal

abbrev pub decreases-loop-number : goal.decreases-loop-number
decreases-loop-number g l = length l.groups - l.number

abbrev pub invariant-loop-number : goal.invariant-loop-number
invariant-loop-number g l = record {
  of : IsOf l.seat l.claims;
  worker : (view_of l.seat).kind ≡ Worker;
  groups : (view_of l.seat).groups ≡ length l.groups;
  list : (view_of l.seat).list ≡ groups_of l.all ++ l.number ∷ [];
  are_groups : AreGroups (length l.groups) (groups_of l.all);
  parts : All (IsDrawnPart l.spec.net l.groups) l.all;
}
