-- Counts of live places and of arcs.
use Rattle.std.proofs.Common.{◌≡◌, ◌≤◌, ◌+◌, ◌++◌, ◌∷◌, [], ℕ, zero, suc, Bool, true, false, cond, filter, length, ap, ◌∙◌, refl, zero-add, arith, ◌-◌, min}
use Rattle.std.specs.List.{range_with_len, sum_by}
use Rattle.std.proofs.lemmas.List.{length-append}
use Rattle.std.proofs.lemmas.List.Elements.{filter-append}
use Rattle.std.proofs.lemmas.List.Sums.{sum_by-append, sum_by-cons}
use Rattle.stg_arena.specs.WalkItems.{weighted}
use Rattle.stg_arena.proofs.Appends.{weighted_more, weighted_up}
use Rattle.stg_edit.specs.Walks.{arcs_below}

-- one more number
pub range_more : (n a j : ℕ) → a + n ≡ j → range_with_len a (n + 1) ≡ range_with_len a n ++ j ∷ []
range_more zero a j e = λ i. (let z : a ≡ j = omega arith in z) i ∷ []
range_more (suc n) a j e = ap (range_with_len a) (let z : suc n + 1 ≡ suc (n + 1) = omega arith in z) ∙ ap (λ xs. a ∷ xs) (range_more n (a + 1) j (omega arith))

kept_more : (q : ℕ → Bool) (n : ℕ) → filter q (range_with_len 0 (n + 1)) ≡ filter q (range_with_len 0 n) ++ cond (q n) (n ∷ []) []
kept_more q n = ap (filter q) (range_more n 0 n (zero-add n)) ∙ filter-append q (range_with_len 0 n) (n ∷ [])

-- one more number, and how many pass
pub length_more : (q : ℕ → Bool) (n : ℕ) → length (filter q (range_with_len 0 (n + 1))) ≡ length (filter q (range_with_len 0 n)) + cond (q n) 1 0
length_more q n = ap (length {A = ℕ}) (kept_more q n) ∙ length-append (filter q (range_with_len 0 n)) (cond (q n) (n ∷ []) []) ∙ ap (λ m. length (filter q (range_with_len 0 n)) + m) (one (q n))
  where
    one : (z : Bool) → length {A = ℕ} (cond z (n ∷ []) []) ≡ cond z 1 0
    one true = refl
    one false = refl

-- one more number, and the sum over those that pass
pub sum_more : (f : ℕ → ℕ) (q : ℕ → Bool) (n : ℕ) → sum_by f (filter q (range_with_len 0 (n + 1))) ≡ sum_by f (filter q (range_with_len 0 n)) + cond (q n) (f n) 0
sum_more f q n = ap (sum_by f) (kept_more q n) ∙ sum_by-append f (filter q (range_with_len 0 n)) (cond (q n) (n ∷ []) []) ∙ ap (λ m. sum_by f (filter q (range_with_len 0 n)) + m) (one (q n))
  where
    one : (z : Bool) → sum_by f (cond z (n ∷ []) []) ≡ cond z (f n) 0
    one true = sum_by-cons f n [] ∙ omega arith
    one false = refl

-- no more numbers have a weight than there are
pub weighted_few : (n : ℕ) (w : ℕ → ℕ) → length (weighted n w) ≤ n
weighted_few zero w = omega arith
weighted_few (suc n) w = omega (arith, ap (λ k. length (weighted k w)) (let e : suc n ≡ n + 1 = omega arith in e), weighted_more n w, weighted_few n w)

-- with more transitions there are no fewer arcs
pub arcs_up : (f h : ℕ → ℕ) (n m : ℕ) → n ≤ m → arcs_below f h n ≤ arcs_below f h m
arcs_up f h n m le = omega (arith, weighted_up (m - n) n m f (omega arith), weighted_up (m - n) n m h (omega arith))

-- one more transition has at most two arcs
pub arcs_more : (f h : ℕ → ℕ) (n : ℕ) → arcs_below f h n + min 1 (f n + h n) ≤ arcs_below f h (n + 1)
arcs_more f h n = omega (arith, weighted_more n f, weighted_more n h)
