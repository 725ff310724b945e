-- The search for the least split: at each place the least own taker and another one.
use Rattle.std.specs.Prelude.{◌≡◌, ℕ, ◌<◌, ◌≤◌, Bool, ◌&&◌, ◌||◌, ◌==◌, nat_lt, min, List, [], ◌∷◌, length, slice_set, Option, Some, None, All, IfSome, MatchOption, IsTrue, if◌then◌else◌}
use Rattle.stg_net.specs.declared.arc.NetArc.{NetArc}
use Rattle.stg_net.specs.Net.{NetLists}
use Rattle.stg_laws.specs.Groups.{is_driven_at, takes_from}
use Rattle.stg_partition.specs.declared.splits.Split.{Split}
use Rattle.stg_partition.specs.inner.Joining.{own_taker, taker_at}
use Rattle.stg_partition.specs.inner.Numbers.{number_at, are_same_numbers}

-- the lesser of a place's taker and another signal
abbrev pub lesser_taker : Option ℕ → ℕ → ℕ
lesser_taker (Some t) s = min t s
lesser_taker None s = s

-- the takers after an arc at p with this own taker: each is the least so far
abbrev pub with_lesser : Option ℕ → ℕ → List (Option ℕ) → List (Option ℕ)
with_lesser None p takers = takers
with_lesser (Some s) p takers = slice_set takers p (Some (lesser_taker (taker_at takers p) s))

-- the takers after these arcs, from the last to the first
abbrev pub least_takers : NetLists → List (Option ℕ) → List NetArc → List (Option ℕ)
least_takers n before [] = before
least_takers n before (a ∷ arcs) =
    with_lesser (own_taker n a) a.place (least_takers n before arcs)

-- the taker is the least output or internal signal that takes from the place, where one does
pub record IsLeastTaker (n : NetLists) (p : ℕ) (taker : Option ℕ) : Type 0 where
  pub takes : IfSome taker
      (λ x. IsTrue (is_driven_at n.signals x) × IsTrue (takes_from n x p))
  pub least : (s : ℕ) → IsTrue (is_driven_at n.signals s) → IsTrue (takes_from n s p)
      → MatchOption taker ⊥ (λ x. x ≤ s)

-- each place has its least taker
pub record AreLeastTakers (n : NetLists) (takers : List (Option ℕ)) : Type 0 where
  pub long : length takers ≡ length n.tokens
  pub below : All (λ taker. IfSome taker (λ s. s < length n.signals)) takers
  pub each : (p : ℕ) → IsLeastTaker n p (taker_at takers p)

-- whether c is the lesser: by the first signal, then by the second, then by the place
abbrev pub is_lesser_split : Split → Split → Bool
is_lesser_split c d =
    nat_lt c.x d.x || (c.x == d.x) && (nat_lt c.y d.y || (c.y == d.y) && nat_lt c.place d.place)

-- the lesser of two, where there is one
abbrev pub lesser_split : Option Split → Option Split → Option Split
lesser_split (Some c) (Some d) = Some (if is_lesser_split d c then d else c)
lesser_split (Some c) None = Some c
lesser_split None d = d

-- the split of a place's taker and an own taker at it, where their numbers differ
abbrev pub split_of : List (Option ℕ) → Option ℕ → Option ℕ → ℕ → Option Split
split_of numbers (Some x) (Some y) p =
    if are_same_numbers (number_at numbers x) (number_at numbers y) then None
    else Some (record { x = x; y = y; place = p })
split_of numbers (Some x) None p = None
split_of numbers None y p = None

-- the split of the arc's own taker with the taker of its place
abbrev pub split_at : NetLists → List (Option ℕ) → List (Option ℕ) → NetArc → Option Split
split_at n numbers takers a =
    split_of numbers (taker_at takers a.place) (own_taker n a) a.place

-- the least split of these arcs
abbrev pub least_split :
    NetLists → List (Option ℕ) → List (Option ℕ) → List NetArc → Option Split
least_split n numbers takers [] = None
least_split n numbers takers (a ∷ arcs) =
    lesser_split (split_at n numbers takers a) (least_split n numbers takers arcs)

-- the split is the least of all arcs, by the least takers of the places
pub record IsFound (n : NetLists) (numbers : List (Option ℕ)) (split : Option Split) : Type 0 where
  pub takers : List (Option ℕ)
  pub are_least : AreLeastTakers n takers
  pub split_is : split ≡ least_split n numbers takers n.arcs
