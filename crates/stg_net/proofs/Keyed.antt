-- Numbers that a stable sort puts in the order of their keys.
use Rattle.std.proofs.Common.{◌≡◌, ℕ, zero, suc, ◌<◌, ◌==◌, ◌&&◌, Bool, true, false, not, nat_lt, List, [], ◌∷◌, ◌++◌, All, refl, sym, ap, ◌∙◌, arith, eq-eqb, inl, inr}
use Rattle.std.specs.List.{filter, list_any, range_with_len}
use Rattle.std.specs.List.Sorted.{IsPermutation, IsNonDecreasingBy, IsStableByKey}
use Rattle.std.specs.Ordering.{is_lt, nat_cmp}
use Rattle.std.proofs.lemmas.Bool.{cases_Bool, cases_order, eqb-true, ne_eqb, lt-ltb, le-ltb, false≢true, false_from_ne_true}
use Rattle.std.proofs.lemmas.Bool.Decides.{nat_tests}
use Rattle.std.proofs.lemmas.List.Folds.{list_any_at, Any-from_list_any}
use Rattle.std.proofs.lemmas.List.Sorted.{All-permutation}
use Rattle.stg_net.specs.Ordered.{listed_below, numbers_by}
use Rattle.stg_net.proofs.Buckets.{bucket, low, filter_all, filter_none, numbers_where-filter}
use Rattle.stg_net.proofs.Orders.{all_below}

-- neither number is below the other where they are one
pub tie_test : (a b : ℕ) → (not (is_lt (nat_cmp a b)) && not (is_lt (nat_cmp b a))) ≡ (b == a)
tie_test a b = grind (arith, nat_tests)

module _ {X : Type 0} (key : X → ℕ) where
  -- in a list that rises, those of the next key stand behind those of the lesser keys
  low_more : (xs : List X) (n : ℕ) → IsNonDecreasingBy key xs → low key xs (suc n) ≡ low key xs n ++ bucket key xs n
  low_more [] n rise = refl
  low_more (x ∷ xs) n rise =
      let rest = low_more xs n (λ i j d up below. rise (suc i) (suc j) d (omega arith) (omega arith)) in
      elim (cases_order (key x) n) [
        | inl same ↦
            let none : low key xs n ≡ [] = filter_none (λ y. nat_lt (key y) n) xs (λ k d below. le-ltb _ n (omega (arith, same, rise 0 (suc k) d (omega arith) (omega arith)))) in
            rw (lt-ltb (key x) (suc n) (omega arith), le-ltb (key x) n (omega arith), eq-eqb (key x) n same) (ap (λ l. x ∷ l) rest ∙ (λ j. x ∷ (none j ++ bucket key xs n)) ∙ sym (λ j. none j ++ x ∷ bucket key xs n))
        | inr other ↦ elim other [
          | inl less ↦ rw (lt-ltb (key x) (suc n) (omega arith), lt-ltb (key x) n less, ne_eqb (key x) n (λ e. omega arith)) (ap (λ l. x ∷ l) rest)
          | inr more ↦ rw (le-ltb (key x) (suc n) (omega arith), le-ltb (key x) n (omega arith), ne_eqb (key x) n (λ e. omega arith)) rest
        ]
      ]

  listed_low : (xs : List X) (n : ℕ) → IsNonDecreasingBy key xs → listed_below (bucket key xs) n ≡ low key xs n
  listed_low xs zero rise = sym (filter_none (λ y. nat_lt (key y) 0) xs (λ k d below. le-ltb _ 0 (omega arith)))
  listed_low xs (suc n) rise = ap (λ l. l ++ bucket key xs n) (listed_low xs n rise) ∙ sym (low_more xs n rise)

  -- a stable sort keeps those of a key in their order
  same_bucket : (xs ys : List X) (t : ℕ) → IsPermutation xs ys → IsStableByKey key nat_cmp xs ys → bucket key ys t ≡ bucket key xs t
  same_bucket xs ys t moved stable = elim (cases_Bool (list_any test xs)) [
    | inl some ↦
        let a = Any-from_list_any test xs some in
        let same : (y : X) → (not (is_lt (nat_cmp (key a.1) (key y))) && not (is_lt (nat_cmp (key y) (key a.1)))) ≡ test y = λ y. tie_test (key a.1) (key y) ∙ ap (λ k. key y == k) (eqb-true (key a.1) t a.4) in
        sym (λ j. filter (λ y. same y j) ys) ∙ stable a.1 ∙ (λ j. filter (λ y. same y j) xs)
    | inr none ↦
        let apart : All (λ x. test x ≡ false) xs = λ k d below. false_from_ne_true _ (λ e. false≢true (sym none ∙ list_any_at test xs k d below e)) in
        filter_none test ys (All-permutation (λ x. test x ≡ false) xs ys moved apart) ∙ sym (filter_none test xs apart)
  ]
    where
      test : X → Bool
      test x = key x == t

-- the numbers below n, sorted by their keys
pub sorted_numbers : (key : ℕ → ℕ) (ys : List ℕ) (n m : ℕ) → IsPermutation (range_with_len 0 n) ys → IsNonDecreasingBy key ys → IsStableByKey key nat_cmp (range_with_len 0 n) ys
    → ((k : ℕ) → k < n → key k < m) → ys ≡ numbers_by key n m
sorted_numbers key ys n m moved rise stable few =
    sym (filter_all (λ k. nat_lt (key k) m) ys (All-permutation (λ k. nat_lt (key k) m ≡ true) (range_with_len 0 n) ys moved (λ k d below. lt-ltb _ m (few _ (all_below n k d below)))))
    ∙ sym (listed_low key ys m rise)
    ∙ (λ j. listed_below (λ t. same_bucket key (range_with_len 0 n) ys t moved stable j) m)
    ∙ (λ j. listed_below (λ t. sym (numbers_where-filter (λ k. key k == t) n) j) m)
