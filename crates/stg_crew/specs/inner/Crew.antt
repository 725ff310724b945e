-- Workers before and after they draw, and what is taken in from them.
use Rattle.std.specs.Prelude.{◌≡◌, ℕ, ◌+◌, List, All, IfOk, Option, length}
use Rattle.stg_net.specs.declared.limits.TheConstants.Limits.{SPEC}
use Rattle.stg_net.specs.Initial.{graph_of}
use Rattle.stg_net.specs.Net.{NetLists, IsWithin}
use Rattle.stg_laws.specs.Conflict.{HasNoAutoConflict}
use Rattle.stg_laws.specs.PlainGroups.{Group, AreClosed}
use Rattle.stg_derive.specs.declared.part.Part.{Part}
use Rattle.stg_crew.specs.declared.crew.Worker.{Worker as ThisWorker}
use Rattle.stg_crew.specs.declared.kind.SeatKind.TheVariants.{Collecting, Worker}
use Rattle.stg_crew.specs.declared.table.Claims.{Claims}
use Rattle.stg_crew.specs.declared.view.SeatView.{SeatView}
use Rattle.stg_crew.specs.declared.worker.Drawn.{Drawn}
use Rattle.stg_crew.specs.Claims.{AreGroups, count_past, total, worker}
use Rattle.stg_crew.specs.Drawing.{HasDrawn, IsDrawnPart, groups_of}
use Rattle.stg_crew.specs.Parts.{AreKnownInRange}
use Rattle.stg_crew.specs.Seats.{view_of, IsOf}
use Rattle.stg_crew.specs.inner.Slots.{placed}

-- what a worker needs to derive the parts of groups
pub record AreDerivable (n : NetLists) (groups : List Group) : Type 0 where
  pub within : IsWithin SPEC n
  pub in_range : AreKnownInRange n groups
  pub closed : AreClosed n groups
  pub no_conflict : HasNoAutoConflict (graph_of n)

-- a worker with a seat of the table that has drawn nothing
pub record IsFresh (claims : Claims) (groups : ℕ) (w : ThisWorker) : Type 0 where
  pub of : IsOf w.seat claims
  pub view_is : view_of w.seat ≡ worker groups

-- a worker that has drawn until there was no group left, or until memory ran out
pub record IsThrough (claims : Claims) (groups : ℕ) (w : ThisWorker) : Type 0 where
  pub of : IsOf w.seat claims
  pub kind_is : (view_of w.seat).kind ≡ Worker
  pub groups_are : (view_of w.seat).groups ≡ groups
  pub drawn : IfOk w.drawn (λ all. HasDrawn groups all (view_of w.seat).list)

-- the worker's parts are those of their groups
abbrev pub HasDrawnParts : NetLists → List Group → ThisWorker → Type 0
HasDrawnParts n groups w = IfOk w.drawn (All (IsDrawnPart n groups))

-- The seats of that many of the workers were taken in. The collecting view has the groups that they
-- drew, whose parts stand in their slots, and one number past the groups for each seat.
pub record AreTakenIn (workers : List ThisWorker) (first slots : List (Option Part)) (count : ℕ)
    (v : SeatView) : Type 0 where
  pub all : List Drawn
  pub parts : (n : NetLists) (groups : List Group) → All (HasDrawnParts n groups) workers
      → All (IsDrawnPart n groups) all
  pub slots_are : slots ≡ placed first all
  pub are_groups : AreGroups (length first) (groups_of all)
  pub overs : List ℕ
  pub past : count_past (length first) overs ≡ count
  pub length_is : length overs ≡ count
  pub sums : (f : ℕ → ℕ) → total f v.list ≡ total f (groups_of all) + total f overs
  pub kind_is : v.kind ≡ Collecting
  pub joined_is : v.joined ≡ count
