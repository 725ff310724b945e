-- Queues of dummies: entries that wait, the fewest places first, and entries that are put aside.
use Rattle.std.specs.Prelude.{◌≡◌, ◌<◌, ◌≤◌, ◌⊎◌, ℕ, List, map}
use Rattle.std.specs.Ordering.{nat_cmp, ordering_then}
use Rattle.std.specs.declared.cmp.Ordering.{Ordering}
use Rattle.std.specs.declared.cmp.Reverse.{Reverse}

-- what contracts see of a queue: the entries that wait, those that are put aside, each a number of
-- places and a dummy, and how many more can be added without memory
pub record Queued : Type 0 where
  pub waiting : List (ℕ × ℕ)
  pub aside : List (ℕ × ℕ)
  pub room : ℕ

-- x comes before y or with it: it has fewer places, or as many and the lesser dummy or the same
abbrev pub ComesFirst : ℕ × ℕ → ℕ × ℕ → Type 0
ComesFirst x y = (x.0 < y.0) ⊎ ((x.0 ≡ y.0) × (x.1 ≤ y.1))

-- the entries that a heap has, in the order in which it stores them
abbrev pub stored_entries : List (Reverse (ℕ × ℕ)) → List (ℕ × ℕ)
stored_entries items = map (λ (x : Reverse (ℕ × ℕ)). x.0) items

-- the order of what is stored: the entry that comes first is the greatest
abbrev pub cmp_stored : Reverse (ℕ × ℕ) → Reverse (ℕ × ℕ) → Ordering
cmp_stored x y = ordering_then (nat_cmp y.0.0 x.0.0) (nat_cmp y.0.1 x.0.1)
