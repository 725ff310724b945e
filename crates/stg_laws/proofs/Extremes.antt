-- The greatest and the least of finitely many numbers, and a bound on them.
use Rattle.std.proofs.Common.{◌≡◌, ℕ, zero, suc, ◌+◌, ◌<◌, ◌≤◌, ◌⊎◌, inl, inr, arith}
use Rattle.std.proofs.lemmas.Bool.{cases_lt}

-- among the first n numbers, as far as they count, that of `place` stands in R to all others
pub record IsExtreme (R : ℕ → ℕ → Type 0) (counts number : ℕ → ℕ) (n : ℕ) : Type 0 where
  pub place : ℕ
  pub there : 0 < counts place
  pub extreme : (j : ℕ) → j < n → 0 < counts j → R (number place) (number j)

module _ (R : ℕ → ℕ → Type 0) (total : (a b : ℕ) → R a b ⊎ R b a)
    (trans : (a b c : ℕ) → R a b → R b c → R a c) (counts number : ℕ → ℕ) where
  itself : (a : ℕ) → R a a
  itself a = elim (total a a) [ inl r ↦ r | inr r ↦ r ]

  at_last : (P : ℕ → Type 0) (n j : ℕ) → j ≡ n → P n → P j
  at_last P n j e p = rw e p

  -- the extreme of one more, where the last one counts: b stays, or the last one takes its place
  with_last : (n : ℕ) → 0 < counts n → IsExtreme R counts number n
      → IsExtreme R counts number (suc n)
  with_last n some b = elim (total (number b.place) (number n)) [
    | inl r ↦ record {
      place = b.place;
      there = b.there;
      extreme = λ j h c. elim (cases_lt j n) [ inl l ↦ b.extreme j l c | inr g ↦ at_last (λ x. R (number b.place) (number x)) n j (omega arith) r ];
    }
    | inr r ↦ record {
      place = n;
      there = some;
      extreme = λ j h c. elim (cases_lt j n) [
        | inl l ↦ trans _ _ _ r (b.extreme j l c)
        | inr g ↦ at_last (λ x. R (number n) (number x)) n j (omega arith) (itself (number n))
      ];
    }
  ]

  -- the last one where no earlier one counts
  last_alone : (n : ℕ) → 0 < counts n → ((j : ℕ) → j < n → counts j ≡ 0)
      → IsExtreme R counts number (suc n)
  last_alone n some none = record {
    place = n;
    there = some;
    extreme = λ j h c. elim (cases_lt j n) [
      | inl l ↦ absurd (omega (arith, none j l))
      | inr g ↦ at_last (λ x. R (number n) (number x)) n j (omega arith) (itself (number n))
    ];
  }

  -- the extreme of one more, where the last one doesn't count
  without_last : (n : ℕ) → counts n ≡ 0 → IsExtreme R counts number n
      → IsExtreme R counts number (suc n)
  without_last n none b = record {
    place = b.place;
    there = b.there;
    extreme = λ j h c. elim (cases_lt j n) [ inl l ↦ b.extreme j l c | inr g ↦ absurd (never n j none (omega arith) c) ];
  }
    where
      never : (n j : ℕ) → counts n ≡ 0 → j ≡ n → 0 < counts j → ⊥
      never n j none e c = let there : 0 < counts n = rw e at c in omega arith

  -- one of the first n is extreme, or none of them counts
  pub extreme_or_none : (n : ℕ) → IsExtreme R counts number n ⊎ ((j : ℕ) → j < n → counts j ≡ 0)
  extreme_or_none zero = inr (λ j h. omega arith)
  extreme_or_none (suc n) = elim (cases_lt 0 (counts n)) [
    | inl some ↦ elim (extreme_or_none n) [ inl b ↦ inl (with_last n some b) | inr none ↦ inl (last_alone n some none) ]
    | inr last ↦
        let zero_last : counts n ≡ 0 = omega arith in
        elim (extreme_or_none n) [
          | inl b ↦ inl (without_last n zero_last b)
          | inr none ↦ inr (λ j h. elim (cases_lt j n) [ inl l ↦ none j l | inr g ↦ at_last (λ x. counts x ≡ 0) n j (omega arith) zero_last ])
        ]
  ]

-- the least of those that count
pub least_or_none : (counts number : ℕ → ℕ) (n : ℕ) → IsExtreme (λ a b. a ≤ b) counts number n ⊎ ((j : ℕ) → j < n → counts j ≡ 0)
least_or_none =
    extreme_or_none (λ a b. a ≤ b) (λ a b. elim (cases_lt a b) [ inl l ↦ inl (omega arith) | inr g ↦ inr g ]) (λ a b c x y. omega arith)

-- the greatest of those that count
pub greatest_or_none : (counts number : ℕ → ℕ) (n : ℕ) → IsExtreme (λ a b. b ≤ a) counts number n ⊎ ((j : ℕ) → j < n → counts j ≡ 0)
greatest_or_none =
    extreme_or_none (λ a b. b ≤ a) (λ a b. elim (cases_lt a b) [ inl l ↦ inr (omega arith) | inr g ↦ inl g ]) (λ a b c x y. omega arith)

-- a number that none of the first n passes
pub upper_bound : (number : ℕ → ℕ) (n : ℕ) → (b : ℕ) × ((j : ℕ) → j < n → number j ≤ b)
upper_bound number zero = (0, λ j h. omega arith)
upper_bound number (suc n) = one_more (upper_bound number n)
  where
    at_last : (b j : ℕ) → j ≡ n → number j ≤ number n + b
    at_last b j e = rw e (omega arith)

    one_more : (b : ℕ) × ((j : ℕ) → j < n → number j ≤ b)
        → (b : ℕ) × ((j : ℕ) → j < suc n → number j ≤ b)
    one_more b =
        (number n + b.0, λ j h. elim (cases_lt j n) [ inl l ↦ omega (arith, b.1 j l) | inr g ↦ at_last b.0 j (omega arith) ])
