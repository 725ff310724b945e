-- What is listed for each number below a bound; a list that is put into buckets by a key.
use Rattle.std.proofs.Common.{◌≡◌, ℕ, zero, suc, ◌+◌, ◌<◌, ◌==◌, Bool, true, false, not, cond, ◌&&◌, nat_lt, List, [], ◌∷◌, ◌++◌, length, All, refl, sym, ap, ◌∙◌, subst, arith, length-append}
use Rattle.std.specs.List.{filter, range_with_len, sum_by}
use Rattle.std.specs.List.Sorted.{IsPermutation}
use Rattle.std.proofs.lemmas.Bool.{le-ltb, lt-ltb}
use Rattle.std.proofs.lemmas.Bool.Decides.{nat_tests}
use Rattle.std.proofs.lemmas.List.Elements.{All-nil, All-append, All-head, All-tail, filter-append}
use Rattle.std.proofs.lemmas.List.Sorted.{IsPermutation-filter_both, IsPermutation-append_left, IsPermutation-trans, IsPermutation-refl}
use Rattle.std.proofs.lemmas.List.Sums.{sum_by_push}
use Rattle.stg_net.specs.Ordered.{listed_below, only_where, numbers_where}

-- one more number at the end
pub range-push : (a n : ℕ) → range_with_len a (suc n) ≡ range_with_len a n ++ (a + n) ∷ []
range-push a zero = let e : a ≡ a + 0 = omega arith in ap (λ k. k ∷ []) e
range-push a (suc n) =
    let e : a + 1 + n ≡ a + suc n = omega arith in
    ap (λ l. a ∷ l) (range-push (a + 1) n) ∙ ap (λ k. a ∷ (range_with_len (a + 1) n ++ k ∷ [])) e

pub range-push_zero : (n : ℕ) → range_with_len 0 (suc n) ≡ range_with_len 0 n ++ n ∷ []
range-push_zero n = let e : 0 + n ≡ n = omega arith in range-push 0 n ∙ ap (λ k. range_with_len 0 n ++ k ∷ []) e

-- the numbers that pass are a filter of all
pub numbers_where-filter : (test : ℕ → Bool) (n : ℕ) → numbers_where test n ≡ filter test (range_with_len 0 n)
numbers_where-filter test zero = refl
numbers_where-filter test (suc n) =
    ap (λ l. l ++ only_where test n) (numbers_where-filter test n) ∙ sym (filter-append test (range_with_len 0 n) (n ∷ [])) ∙ ap (filter test) (sym (range-push_zero n))

module _ {X : Type 0} where
  pub All-listed_below : (P : X → Type 0) (f : ℕ → List X) (n : ℕ) → ((k : ℕ) → k < n → All P (f k)) → All P (listed_below f n)
  All-listed_below P f zero each = All-nil P
  All-listed_below P f (suc n) each =
      All-append P (listed_below f n) (f n) (All-listed_below P f n (λ k below. each k (omega arith))) (each n (omega arith))

  pub length-listed_below : (f : ℕ → List X) (n : ℕ) → length (listed_below f n) ≡ sum_by (λ k. length (f k)) (range_with_len 0 n)
  length-listed_below f zero = refl
  length-listed_below f (suc n) =
      length-append (listed_below f n) (f n)
      ∙ ap (λ k. k + length (f n)) (length-listed_below f n)
      ∙ sym (sum_by_push (λ k. length (f k)) (range_with_len 0 n) n)
      ∙ ap (sum_by (λ k. length (f k))) (sym (range-push_zero n))

  kept : (p : X → Bool) (q r : Bool) (x : X) (ys zs : List X) → (q && p x) ≡ r → filter p ys ≡ zs → filter p (cond q (x ∷ ys) ys) ≡ cond r (x ∷ zs) zs
  kept p true r x ys zs agree rest = λ j. cond (agree j) (x ∷ rest j) (rest j)
  kept p false r x ys zs agree rest = rest ∙ ap (λ b. cond b (x ∷ zs) zs) agree

  -- a filter of a filter
  filter-filter : (p q r : X → Bool) → ((x : X) → (q x && p x) ≡ r x) → (xs : List X) → filter p (filter q xs) ≡ filter r xs
  filter-filter p q r agree [] = refl
  filter-filter p q r agree (x ∷ xs) = kept p (q x) (r x) x (filter q xs) (filter r xs) (agree x) (filter-filter p q r agree xs)

  pub filter_all : (p : X → Bool) (xs : List X) → All (λ x. p x ≡ true) xs → filter p xs ≡ xs
  filter_all p [] all = refl
  filter_all p (x ∷ xs) all =
      let P : X → Type 0 = λ y. p y ≡ true in
      (λ j. cond (All-head P x xs all j) (x ∷ filter_all p xs (All-tail P x xs all) j) (filter_all p xs (All-tail P x xs all) j))

  pub filter_none : (p : X → Bool) (xs : List X) → All (λ x. p x ≡ false) xs → filter p xs ≡ []
  filter_none p [] none = refl
  filter_none p (x ∷ xs) none =
      let P : X → Type 0 = λ y. p y ≡ false in
      (λ j. cond (All-head P x xs none j) (x ∷ filter_none p xs (All-tail P x xs none) j) (filter_none p xs (All-tail P x xs none) j))

low_below : (k n : ℕ) → (nat_lt k (suc n) && nat_lt k n) ≡ nat_lt k n
low_below k n = grind (arith, nat_tests)

low_not_below : (k n : ℕ) → (nat_lt k (suc n) && not (nat_lt k n)) ≡ (k == n)
low_not_below k n = grind (arith, nat_tests)

module _ {X : Type 0} (key : X → ℕ) where
  -- those with that key
  abbrev pub bucket : List X → ℕ → List X
  bucket xs t = filter (λ x. key x == t) xs

  abbrev pub low : List X → ℕ → List X
  low xs n = filter (λ x. nat_lt (key x) n) xs

  one_more : (xs : List X) (n : ℕ) → IsPermutation (low xs (suc n)) (low xs n ++ bucket xs n)
  one_more xs n =
      let p : X → Bool = λ x. nat_lt (key x) n in
      let q : X → Bool = λ x. not (nat_lt (key x) n) in
      let all : X → Bool = λ x. nat_lt (key x) (suc n) in
      let parts = IsPermutation-filter_both p q (λ x. refl) (low xs (suc n)) in
      let first : filter p (low xs (suc n)) ≡ low xs n = filter-filter p all p (λ x. low_below (key x) n) xs in
      let second : filter q (low xs (suc n)) ≡ bucket xs n = filter-filter q all (λ x. key x == n) (λ x. low_not_below (key x) n) xs in
      subst (IsPermutation (low xs (suc n))) (λ j. first j ++ second j) parts

  buckets_below : (xs : List X) (n : ℕ) → IsPermutation (low xs n) (listed_below (bucket xs) n)
  buckets_below xs zero =
      subst (λ ys. IsPermutation ys []) (sym (filter_none (λ x. nat_lt (key x) 0) xs (λ k d below. le-ltb _ 0 (omega arith)))) (IsPermutation-refl [])
  buckets_below xs (suc n) =
      IsPermutation-trans (low xs (suc n)) (low xs n ++ bucket xs n) (listed_below (bucket xs) (suc n)) (one_more xs n)
      (IsPermutation-append_left (bucket xs n) (low xs n) (listed_below (bucket xs) n) (buckets_below xs n))

  -- a list has the elements of its buckets, where each key is below the bound
  pub IsPermutation-buckets : (xs : List X) (n : ℕ) → All (λ x. key x < n) xs → IsPermutation xs (listed_below (bucket xs) n)
  IsPermutation-buckets xs n all =
      subst (λ ys. IsPermutation ys (listed_below (bucket xs) n)) (filter_all (λ x. nat_lt (key x) n) xs (λ k d below. lt-ltb _ _ (all k d below))) (buckets_below xs n)
