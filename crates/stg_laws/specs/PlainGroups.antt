-- The groups that a specification may be split into: the plain ones, and all feasible ones.
use Rattle.std.specs.Prelude.{◌≡◌, ℕ, ◌<◌, List, length, All, Any, AllPairs, Contains, IsTrue}
use Rattle.std.specs.List.Sorted.{IsStrictlyIncreasing}
use Rattle.stg_net.specs.Net.{NetLists}
use Rattle.stg_net.specs.Initial.{graph_of}
use Rattle.stg_laws.specs.Closed.{IsClosed}
use Rattle.stg_laws.specs.Groups.{is_driven_at, in_conflict, least_own, IsPlainGroup, known_to, names_at}

-- the signals that a component drives, and those that it knows
pub record Group : Type 0 where
  pub own : List ℕ
  pub known : List ℕ

-- each output and internal signal stands in a plain group, the groups stand in the order of their
-- least signals, and each knows what it has to
pub record ArePlainGroups (n : NetLists) (groups : List Group) : Type 0 where
  pub plain : All (λ (group : Group). IsPlainGroup n group.own) groups
  pub whole : (s : ℕ) → IsTrue (is_driven_at n.signals s)
      → Any (λ (group : Group). Contains group.own s) groups
  pub ordered : AllPairs (λ (g h : Group). least_own g.own < least_own h.own) groups
  pub known : All (λ (group : Group). group.known ≡ known_to n group.own) groups

-- one output or internal signal or more, in ascending order, and what they have to know
pub record IsFeasibleGroup (n : NetLists) (group : Group) : Type 0 where
  pub driven : All (λ s. IsTrue (is_driven_at n.signals s)) group.own
  pub ascends : IsStrictlyIncreasing group.own
  pub has_one : 0 < length group.own
  pub known : group.known ≡ known_to n group.own

-- each output and internal signal stands in one of the groups and in no other, and a group has
-- with a signal all that are in conflict with it
pub record AreFeasible (n : NetLists) (groups : List Group) : Type 0 where
  pub feasible : All (IsFeasibleGroup n) groups
  pub whole : (s : ℕ) → IsTrue (is_driven_at n.signals s)
      → Any (λ (group : Group). Contains group.own s) groups
  pub apart : AllPairs (λ (g h : Group). (s : ℕ) → Contains g.own s → ¬ Contains h.own s) groups
  pub together : (x y : ℕ) → IsTrue (in_conflict n x y)
      → All (λ (group : Group). Contains group.own x → Contains group.own y) groups

-- each group knows the signals of all arcs at the places from which its own transitions take
abbrev pub AreClosed : NetLists → List Group → Type 0
AreClosed n groups =
    All (λ (group : Group). IsClosed (graph_of n) (names_at n group.own) (names_at n group.known))
    groups
