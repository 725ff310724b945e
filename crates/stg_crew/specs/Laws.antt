-- The law of the claims: their rule holds at the start, and each step keeps it, whichever seats of
-- the table take it.
use Rattle.std.specs.Prelude.{◌≡◌, ℕ, ◌+◌, ◌<◌, ◌≤◌, List, [], ◌∷◌, ◌++◌, Some, slice_get, slice_set}
use Rattle.stg_crew.specs.declared.kind.SeatKind.TheVariants.{Collecting, Worker}
use Rattle.stg_crew.specs.declared.view.SeatView.{SeatView}
use Rattle.stg_crew.specs.Claims.{collecting, worker, spent, AreGroups, AreClaims, drawn, with_groups, split_from, joined_to}

-- the table is made with no draws, no groups and its first seat
abbrev pub StartHasRule : Type 0
StartHasRule = AreClaims 0 0 (collecting 0 ∷ [])

-- the collecting seat sets the number of groups, before it splits off a seat
abbrev pub SetKeepsRule : Type 0
SetKeepsRule = (draws groups n : ℕ) (views : List SeatView) (i : ℕ) (v : SeatView)
    → AreClaims draws groups views → slice_get views i ≡ Some v → v.kind ≡ Collecting
    → v.split ≡ 0 → v.groups ≡ 0 → v.list ≡ [] → n ≤ 250
    → AreClaims draws (groups + n) (slice_set views i (with_groups n v))

-- a worker's seat is split off the collecting one, as long as fewer than 64 were
abbrev pub SplitKeepsRule : Type 0
SplitKeepsRule = (draws groups : ℕ) (views : List SeatView) (i : ℕ) (v : SeatView)
    → AreClaims draws groups views → slice_get views i ≡ Some v → v.kind ≡ Collecting
    → v.split < 64
    → AreClaims draws groups (slice_set views i (split_from v) ++ worker v.groups ∷ [])

-- a worker draws, as long as each number of its list is that of a group
abbrev pub DrawKeepsRule : Type 0
DrawKeepsRule = (draws groups : ℕ) (views : List SeatView) (i : ℕ) (v : SeatView)
    → AreClaims draws groups views → slice_get views i ≡ Some v → v.kind ≡ Worker
    → AreGroups groups v.list
    → AreClaims (draws + 1) groups (slice_set views i (drawn draws v))

-- a worker's seat is taken into the collecting one
abbrev pub JoinKeepsRule : Type 0
JoinKeepsRule = (draws groups : ℕ) (views : List SeatView) (i j : ℕ) (v w : SeatView)
    → AreClaims draws groups views → slice_get views i ≡ Some v → slice_get views j ≡ Some w
    → v.kind ≡ Collecting → w.kind ≡ Worker
    → AreClaims draws groups (slice_set (slice_set views i (joined_to v w)) j spent)
