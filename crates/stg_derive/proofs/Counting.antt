-- Counts of the numbers below a bound that pass a test.
use Rattle.std.proofs.Common.{◌≡◌, ℕ, zero, suc, ◌+◌, ◌<◌, ◌≤◌, Bool, true, false, cond, filter, length, ap, ◌∙◌, refl, subst, inl, inr, arith}
use Rattle.std.specs.List.{range_with_len}
use Rattle.std.proofs.lemmas.Bool.{cases_lt, false≢true}
use Rattle.stg_edit.proofs.Counted.{length_more}

-- how many numbers below n pass
abbrev pub count : (ℕ → Bool) → ℕ → ℕ
count q n = length (filter q (range_with_len 0 n))

one_more : (q : ℕ → Bool) (n : ℕ) → count q (suc n) ≡ count q n + cond (q n) 1 0
one_more q n = ap (count q) (let e : suc n ≡ n + 1 = omega arith in e) ∙ length_more q n

at_most : (a b : Bool) → (a ≡ true → b ≡ true) → cond a 1 0 ≤ cond b 1 0
at_most true true h = omega arith
at_most true false h = absurd (false≢true (h refl))
at_most false true h = omega arith
at_most false false h = omega arith

-- where what passes r passes q
pub count_le : (q r : ℕ → Bool) (n : ℕ) → ((k : ℕ) → k < n → r k ≡ true → q k ≡ true) → count r n ≤ count q n
count_le q r zero h = omega arith
count_le q r (suc n) h = omega (arith, one_more q n, one_more r n, count_le q r n (λ k l. h k (omega arith)), at_most (r n) (q n) (h n (omega arith)))

-- and one number passes q alone
pub count_less : (q r : ℕ → Bool) (n at : ℕ) → ((k : ℕ) → k < n → r k ≡ true → q k ≡ true) → at < n → q at ≡ true → r at ≡ false → count r n < count q n
count_less q r zero at h below a b = absurd (omega arith)
count_less q r (suc n) at h below a b = elim (cases_lt at n) [
  | inl l ↦ omega (arith, one_more q n, one_more r n, count_less q r n at (λ k l. h k (omega arith)) l a b, at_most (r n) (q n) (h n (omega arith)))
  | inr past ↦
      let same : at ≡ n = omega arith in
      let P : ℕ → Type 0 = λ k. (q k ≡ true) × (r k ≡ false) in
      let here = subst P same (a, b) in
      let one : ◌≡◌ {A = ℕ} (cond (q n) 1 0) 1 = rw here.0 refl in
      let none : ◌≡◌ {A = ℕ} (cond (r n) 1 0) 0 = rw here.1 refl in
      omega (arith, one_more q n, one_more r n, count_le q r n (λ k l. h k (omega arith)), one, none)
]

-- where all from a on pass
pub count_from : (q : ℕ → Bool) (a n : ℕ) → ((k : ℕ) → a ≤ k → k < n → q k ≡ true) → n ≤ count q n + a
count_from q a zero h = omega arith
count_from q a (suc n) h = elim (cases_lt n a) [
  | inl l ↦ omega arith
  | inr past ↦
      let one : ◌≡◌ {A = ℕ} (cond (q n) 1 0) 1 = rw (h n (omega arith) (omega arith)) refl in
      omega (arith, one_more q n, count_from q a n (λ k l m. h k l (omega arith)), one)
]
