-- Members of lists of numbers.
use Rattle.std.proofs.Common.{◌≡◌, ◌==◌, ℕ, ◌<◌, ◌≤◌, true, List, length, get_or, slice_index, Contains, ◌∙◌, ap, arith, eq-eqb, inl, inr}
use Rattle.std.specs.List.{range_with_len}
use Rattle.std.specs.List.Sorted.{IsStrictlyIncreasing}
use Rattle.std.proofs.lemmas.Bool.{cases_order, eqb-true}
use Rattle.std.proofs.lemmas.List.{get_or_default}
use Rattle.std.proofs.lemmas.List.Folds.{list_any_at, Any-from_list_any}
use Rattle.std.proofs.lemmas.List.FromFn.{length-range_with_len, get_or-range_with_len}
use Rattle.std.proofs.lemmas.List.Kept.{AllPairs-from_increasing}
use Rattle.stg_net.specs.Component.{is_one_of}

-- a test finds what a list contains
pub one_of-contained : (xs : List ℕ) (k : ℕ) → Contains xs k → is_one_of xs k ≡ true
one_of-contained xs k c = list_any_at (λ o. o == k) xs c.0 k c.1 (eq-eqb (get_or xs c.0 k) k c.2)

-- and nothing else
pub contained-one_of : (xs : List ℕ) (k : ℕ) → is_one_of xs k ≡ true → Contains xs k
contained-one_of xs k is =
    let a = Any-from_list_any (λ o. o == k) xs is in
    (a.0, a.2, get_or_default xs a.0 k a.1 a.2 ∙ a.3 ∙ eqb-true a.1 k a.4)

-- the numbers below n contain each of them
pub Contains-range : (n k : ℕ) → k < n → Contains (range_with_len 0 n) k
Contains-range n k below =
    let there : k < length (range_with_len 0 n) = omega (arith, below, length-range_with_len 0 n) in
    let same : get_or (range_with_len 0 n) k k ≡ k = omega (arith, get_or-range_with_len 0 n k k below) in
    (k, there, same)

-- the first of ascending numbers is the least
pub first_least : (xs : List ℕ) (k : ℕ) → IsStrictlyIncreasing xs → Contains xs k → slice_index xs 0 ≤ k
first_least xs k increases c =
    let apart = AllPairs-from_increasing xs increases in
    let here : get_or xs c.0 0 ≡ k = get_or_default xs c.0 0 k c.1 ∙ c.2 in
    elim (cases_order 0 c.0) [
      | inl first ↦ omega (arith, ap (λ i. get_or xs i 0) first, here)
      | inr rest ↦ elim rest [
        | inl later ↦ omega (arith, apart 0 c.0 0 later c.1, here)
        | inr never ↦ absurd (omega arith)
      ]
    ]
