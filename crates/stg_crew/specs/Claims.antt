-- The rule of the claims: two words that all workers share, the number of draws and the number of
-- groups, and what each seat of their table has seen.
use Rattle.std.specs.Prelude.{◌≡◌, ◌==◌, ℕ, ◌+◌, ◌≤◌, ◌<◌, List, [], ◌∷◌, ◌++◌, All, AllPairs, length, slice_index, cond, nat_le}
use Rattle.atomic_table.specs.Table.{State}
use Rattle.stg_crew.specs.declared.kind.SeatKind.{SeatKind}
use Rattle.stg_crew.specs.declared.kind.SeatKind.TheVariants.{Collecting, Worker, Spent}
use Rattle.stg_crew.specs.declared.view.SeatView.{SeatView}

-- the view with these fields
abbrev pub view : SeatKind → List ℕ → ℕ → ℕ → ℕ → SeatView
view kind list split joined groups =
    record { kind = kind; list = list; split = split; joined = joined; groups = groups }

-- the view of a table's first seat
abbrev pub collecting : ℕ → SeatView
collecting groups = view Collecting [] 0 0 groups

-- the view of a worker's seat that has drawn nothing
abbrev pub worker : ℕ → SeatView
worker groups = view Worker [] 0 0 groups

-- the view of a seat that was taken in
abbrev pub spent : SeatView
spent = view Spent [] 0 0 0

-- the sum of f over a list
abbrev pub total : {A : Type 0} → (A → ℕ) → List A → ℕ
total f [] = 0
total f (x ∷ xs) = f x + total f xs

-- how often k stands in the list
abbrev pub times : ℕ → List ℕ → ℕ
times k list = total (λ (x : ℕ). cond (x == k) 1 0) list

-- how many numbers of the list are past the groups, that is, the number of none of them
abbrev pub count_past : ℕ → List ℕ → ℕ
count_past groups list = total (λ (x : ℕ). cond (nat_le groups x) 1 0) list

-- 1 for what is collecting
abbrev pub is_collecting : SeatKind → ℕ
is_collecting Collecting = 1
is_collecting Worker = 0
is_collecting Spent = 0

-- 1 for a worker
abbrev pub is_worker : SeatKind → ℕ
is_worker Collecting = 0
is_worker Worker = 1
is_worker Spent = 0

-- how many of the views are collecting
abbrev pub count_collecting : List SeatView → ℕ
count_collecting views = total (λ (v : SeatView). is_collecting v.kind) views

-- how many of the views are workers'
abbrev pub count_workers : List SeatView → ℕ
count_workers views = total (λ (v : SeatView). is_worker v.kind) views

-- the lists of all views together
abbrev pub all_numbers : List SeatView → List ℕ
all_numbers [] = []
all_numbers (v ∷ views) = v.list ++ all_numbers views

-- the list has each number below n once, and no other number
pub record HasEachBelow (n : ℕ) (list : List ℕ) : Type 0 where
  pub once : (k : ℕ) → k < n → times k list ≡ 1
  pub no_other : (k : ℕ) → n ≤ k → times k list ≡ 0

-- each number of the list is that of a group
abbrev pub AreGroups : ℕ → List ℕ → Type 0
AreGroups groups list = All (λ k. k < groups) list

-- the list ascends, and only its last number may be past the groups
pub record IsDrawn (groups : ℕ) (list : List ℕ) : Type 0 where
  pub ascends : AllPairs (λ a b. a < b) list
  pub before_last : (i : ℕ) → i + 1 < length list → slice_index list i < groups

-- a collecting view: of its list, no more numbers are past the groups than seats were taken in; at
-- most 64 seats were split off, of which as many as are workers' weren't taken in
pub record IsCollecting (groups workers : ℕ) (v : SeatView) : Type 0 where
  pub few_past : count_past groups v.list ≤ v.joined
  pub split_is : v.split ≡ v.joined + workers
  pub most : v.split ≤ 64
  pub groups_are : v.groups ≡ groups

-- a worker's view
pub record IsWorker (groups : ℕ) (v : SeatView) : Type 0 where
  pub drawn : IsDrawn groups v.list
  pub no_split : v.split ≡ 0
  pub no_joined : v.joined ≡ 0
  pub groups_are : v.groups ≡ groups

-- the view of a seat that was taken in
pub record IsSpent (v : SeatView) : Type 0 where
  pub no_list : v.list ≡ []
  pub no_split : v.split ≡ 0
  pub no_joined : v.joined ≡ 0

-- what a view of that kind is like, where there are that many groups and workers
abbrev pub IsOfKind : SeatKind → ℕ → ℕ → SeatView → Type 0
IsOfKind Collecting groups workers v = IsCollecting groups workers v
IsOfKind Worker groups workers v = IsWorker groups v
IsOfKind Spent groups workers v = IsSpent v

-- the rule, of the two words and all views: the lists of all views together have each number below
-- the draws once and no other, and exactly one view is collecting
pub record AreClaims (draws groups : ℕ) (views : List SeatView) : Type 0 where
  pub drawn_once : HasEachBelow draws (all_numbers views)
  pub kinds : All (λ (v : SeatView). IsOfKind v.kind groups (count_workers views) v) views
  pub one_collects : count_collecting views ≡ 1
  pub few_groups : groups ≤ 250

-- a table of claims: word 0 is the number of draws, and word 1 that of groups
pub record IsClaims (s : State (Unit {0}) SeatView) : Type 0 where
  pub words : length s.words ≡ 2
  pub claims : AreClaims (slice_index s.words 0) (slice_index s.words 1) s.views

-- a draw puts its number last
abbrev pub drawn : ℕ → SeatView → SeatView
drawn n v = record v { list = v.list ++ n ∷ [] }

-- the number of groups is set
abbrev pub with_groups : ℕ → SeatView → SeatView
with_groups n v = record v { groups = n }

-- a worker's seat is split off
abbrev pub split_from : SeatView → SeatView
split_from v = record v { split = v.split + 1 }

-- a worker's seat is taken in with its list
abbrev pub joined_to : SeatView → SeatView → SeatView
joined_to v w = record v { list = v.list ++ w.list; joined = v.joined + 1 }
