-- The orders of signals and places: each number once, and where it stands.
use Rattle.std.proofs.Common.{◌≡◌, ℕ, ◌+◌, ◌<◌, ◌≤◌, ◌==◌, ◌&&◌, min, List, [], ◌∷◌, ◌++◌, length, map, get_or, All, refl, sym, ap, ◌∙◌, subst, arith, eq-eqb, inl, inr}
use Rattle.std.specs.List.{range_with_len, Contains}
use Rattle.std.specs.List.Sorted.{IsPermutation}
use Rattle.std.proofs.lemmas.Bool.{cases_lt, cond_both, eqb-true, false≢true}
use Rattle.std.proofs.lemmas.List.FromFn.{length-range_with_len, get_or-range_with_len, fill_by_all}
use Rattle.std.proofs.lemmas.List.Sorted.{All-permutation, Contains-permutation, IsPermutation-map, length_permutation}
use Rattle.std.proofs.lemmas.List.Sums.{fails_before_first, passes_at_first}
use Rattle.stg_net.specs.declared.signal.Kind.{Kind}
use Rattle.stg_net.specs.declared.signal.Kind.TheVariants.{Input, Output, Internal}
use Rattle.stg_net.specs.declared.signal.Signal.{Signal}
use Rattle.stg_net.specs.declared.arc.NetArc.{NetArc}
use Rattle.stg_net.specs.Net.{NetLists, signal_at, is_kind}
use Rattle.stg_net.specs.Ordered.{listed_below, numbers_where, numbers_by, signals_of_kind, signal_order, least_giver, first_giver, place_order, new_number}
use Rattle.stg_net.proofs.Buckets.{numbers_where-filter, IsPermutation-buckets}
use Rattle.stg_net.proofs.Members.{Contains-range}

-- the list has each number below n once
abbrev pub IsOrder : ℕ → List ℕ → Type 0
IsOrder n order = IsPermutation (range_with_len 0 n) order

pub all_below : (n : ℕ) → All (λ k. k < n) (range_with_len 0 n)
all_below n k d below =
    let inside : k < n = omega (arith, length-range_with_len 0 n) in
    omega (arith, get_or-range_with_len 0 n k d inside)

-- the numbers below n in the order of their keys
by_key : (key : ℕ → ℕ) (n m : ℕ) → ((k : ℕ) → key k < m) → IsOrder n (numbers_by key n m)
by_key key n m low =
    subst (IsPermutation (range_with_len 0 n)) (λ j. listed_below (λ t. sym (numbers_where-filter (λ k. key k == t) n) j) m)
    (IsPermutation-buckets key (range_with_len 0 n) m (λ k d below. low (get_or (range_with_len 0 n) k d)))

pub least_giver-le : (none p : ℕ) (arcs : List NetArc) → least_giver none p arcs ≤ none
least_giver-le none p [] = omega arith
least_giver-le none p (a ∷ arcs) =
    let rest = least_giver-le none p arcs in
    cond_both (a.into && (a.place == p)) (min a.trans (least_giver none p arcs)) (least_giver none p arcs) (λ k. k ≤ none) (λ yes. omega (arith, rest)) (λ otherwise. rest)

pub place_order-IsOrder : (n : NetLists) → IsOrder (length n.tokens) (place_order n)
place_order-IsOrder n = by_key (first_giver n) (length n.tokens) (length n.trans + 1) (λ p. omega (arith, least_giver-le (length n.trans) p n.arcs))

abbrev kind_number : Kind → ℕ
kind_number Input = 0
kind_number Output = 1
kind_number Internal = 2

kind_low : (kind : Kind) → kind_number kind < 3
kind_low Input = omega arith
kind_low Output = omega arith
kind_low Internal = omega arith

kind_same : (kind other : Kind) → (kind_number other == kind_number kind) ≡ is_kind kind other
kind_same Input Input = refl
kind_same Input Output = refl
kind_same Input Internal = refl
kind_same Output Input = refl
kind_same Output Output = refl
kind_same Output Internal = refl
kind_same Internal Input = refl
kind_same Internal Output = refl
kind_same Internal Internal = refl

pub signal_order-IsOrder : (signals : List Signal) → IsOrder (length signals) (signal_order signals)
signal_order-IsOrder signals =
    let key : ℕ → ℕ = λ s. kind_number (signal_at signals s).kind in
    let same : (kind : Kind) → numbers_where (λ s. key s == kind_number kind) (length signals) ≡ signals_of_kind signals kind =
    λ kind j. numbers_where (λ s. kind_same kind (signal_at signals s).kind j) (length signals) in
    subst (IsOrder (length signals)) (λ j. same Input j ++ same Output j ++ same Internal j)
    (by_key key (length signals) 3 (λ s. kind_low (signal_at signals s).kind))

module _ (n : ℕ) (order : List ℕ) (is : IsOrder n order) where
  pub length-order : length order ≡ n
  length-order = length_permutation (range_with_len 0 n) order is ∙ length-range_with_len 0 n

  pub order_below : All (λ k. k < n) order
  order_below = All-permutation (λ k. k < n) (range_with_len 0 n) order is (all_below n)

  pub order_has : (k : ℕ) → k < n → Contains order k
  order_has k below = Contains-permutation (range_with_len 0 n) order k is (Contains-range n k below)

  -- a number stands where its new number says
  pub new_number-below : (k : ℕ) → k < n → new_number order k < length order
  new_number-below k below =
      let at = order_has k below in
      elim (cases_lt (new_number order k) (length order)) [
        | inl inside ↦ inside
        | inr past ↦ absurd (false≢true (sym (fails_before_first (λ o. o == k) order at.0 k (omega (arith, at.1))) ∙ eq-eqb (get_or order at.0 k) k at.2))
      ]

  pub get_or-new_number : (k d : ℕ) → k < n → get_or order (new_number order k) d ≡ k
  get_or-new_number k d below = eqb-true (get_or order (new_number order k) d) k (passes_at_first (λ o. o == k) order d (new_number-below k below))

  -- so numbers that differ have new numbers that differ
  pub new_number-apart : (j k : ℕ) → j < n → k < n → new_number order j ≡ new_number order k → j ≡ k
  new_number-apart j k first second same =
      sym (get_or-new_number j 0 first) ∙ ap (λ q. get_or order q 0) same ∙ get_or-new_number k 0 second

module _ {X : Type 0} (xs : List X) (order : List ℕ) (is : IsOrder (length xs) order) (e : X) where
  -- what is picked in an order has the same elements
  pub picked : IsPermutation xs (map (λ k. get_or xs k e) order)
  picked =
      let all : xs ≡ map (λ k. get_or xs k e) (range_with_len 0 (length xs)) = fill_by_all (λ k. get_or xs k e) xs (length xs) e refl (λ k below. refl) in
      subst (λ ys. IsPermutation ys (map (λ k. get_or xs k e) order)) (sym all) (IsPermutation-map (λ k. get_or xs k e) (range_with_len 0 (length xs)) order is)
