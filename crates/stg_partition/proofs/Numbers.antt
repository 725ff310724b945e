-- The numbers below a bound that pass a test.
use Rattle.std.proofs.Common.{◌≡◌, ℕ, ◌+◌, ◌<◌, Bool, true, false, [], get_or, All, Contains, slice_index, sym, ◌∙◌, subst, arith, inl, inr}
use Rattle.std.specs.List.{range_with_len}
use Rattle.std.specs.List.Sorted.{IsStrictlyIncreasing}
use Rattle.std.proofs.lemmas.Bool.{cases_Bool, cases_lt, cases_order, false≢true}
use Rattle.std.proofs.lemmas.List.{get_or_default}
use Rattle.std.proofs.lemmas.List.Elements.{All-nil, All-cons}
use Rattle.std.proofs.lemmas.List.FromFn.{length-range_with_len, get_or-range_with_len}
use Rattle.std.proofs.lemmas.List.Kept.{IsStrictlyIncreasing-filter, AllPairs-from_increasing}
use Rattle.stg_net.specs.Ordered.{numbers_where, only_where}
use Rattle.stg_net.proofs.Buckets.{numbers_where-filter, All-listed_below}
use Rattle.stg_laws.proofs.KnownSignals.{passing_contained}

range_increases : (n : ℕ) → IsStrictlyIncreasing (range_with_len 0 n)
range_increases n k below =
    let inside : k + 1 < n = omega (arith, below, length-range_with_len 0 n) in
    omega (arith, get_or-range_with_len 0 n k 0 (omega arith), get_or-range_with_len 0 n (k + 1) 0 inside)

pub numbers_increase : (test : ℕ → Bool) (n : ℕ) → IsStrictlyIncreasing (numbers_where test n)
numbers_increase test n = subst IsStrictlyIncreasing (sym (numbers_where-filter test n)) (IsStrictlyIncreasing-filter test (range_with_len 0 n) (range_increases n))

-- each of them is below the bound and passes
pub record Passes (test : ℕ → Bool) (n k : ℕ) : Type 0 where
  pub below : k < n
  pub passes : test k ≡ true

only_passes : (test : ℕ → Bool) (n k : ℕ) → k < n → All (Passes test n) (only_where test k)
only_passes test n k below = elim (cases_Bool (test k)) [
  | inl e ↦ rw e (All-cons (Passes test n) k [] (record { below = below; passes = e }) (All-nil (Passes test n)))
  | inr e ↦ rw e (All-nil (Passes test n))
]

pub numbers_pass : (test : ℕ → Bool) (n : ℕ) → All (Passes test n) (numbers_where test n)
numbers_pass test n = All-listed_below (Passes test n) (only_where test) n (λ k below. only_passes test n k below)

pub contained_passes : (test : ℕ → Bool) (n k : ℕ) → Contains (numbers_where test n) k → Passes test n k
contained_passes test n k c = subst (Passes test n) c.2 (numbers_pass test n c.0 k c.1)

-- the first of them is the least number that passes
pub first_number : (test : ℕ → Bool) (n k : ℕ) → k < n → test k ≡ true → ((j : ℕ) → j < k → test j ≡ false) → slice_index (numbers_where test n) 0 ≡ k
first_number test n k below e lower =
    let c = passing_contained test n k below e in
    let first = slice_index (numbers_where test n) 0 in
    let passes = numbers_pass test n 0 0 (omega (arith, c.1)) in
    elim (cases_order first k) [
      | inl same ↦ same
      | inr o ↦ elim o [
        | inl l ↦ absurd (false≢true (sym (lower first l) ∙ passes.passes))
        | inr l ↦ absurd (up c first l)
      ]
    ]
  where
    up : Contains (numbers_where test n) k → (first : ℕ) → k < slice_index (numbers_where test n) 0 → ⊥
    up c first l = elim (cases_lt 0 c.0) [
      | inr z ↦
          let at : slice_index (numbers_where test n) 0 ≡ k =
          let here : 0 ≡ c.0 = omega arith in
          let P : ℕ → Type 0 = λ i. get_or (numbers_where test n) i k ≡ k in
          get_or_default (numbers_where test n) 0 0 k (omega (arith, c.1)) ∙ subst P (sym here) c.2 in
          absurd (omega (arith, at, l))
      | inl pos ↦
          let rise = AllPairs-from_increasing (numbers_where test n) (numbers_increase test n) 0 c.0 k pos c.1 in
          let at = get_or_default (numbers_where test n) 0 0 k (omega (arith, c.1)) in
          absurd (omega (arith, rise, c.2, l, at))
    ]
