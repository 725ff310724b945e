-- Sums over lists that change at one place.
use Rattle.std.proofs.Common.{◌≡◌, ℕ, zero, suc, ◌+◌, ◌*◌, ◌<◌, ◌≤◌, ◌≢◌, ◌⊎◌, Bool, true, false, List, [], ◌∷◌, ◌++◌, set, sym, refl, ap, inl, inr, ⊎_elim, arith, cond, nat_le}
use Rattle.std.proofs.lemmas.Bool.{leb-false, le-leb, lt-leb}
use mathlib.Core.Option.{some, some-injective, some-ne-none}
use lib.ListN.{get_elem?}
use Rattle.stg_crew.specs.Claims.{total}

-- the sum of f over the numbers below n
abbrev pub below : (ℕ → ℕ) → ℕ → ℕ
below f zero = 0
below f (suc n) = below f n + f n

-- 1 for a number past the groups
abbrev pub past : ℕ → ℕ → ℕ
past groups n = cond (nat_le groups n) 1 0

module _ {A : Type 0} where
  pub at_set : (l : List A) (i j : ℕ) (a b : A) → get_elem? (set l i a) j ≡ some b → ((j ≡ i) × (a ≡ b)) ⊎ ((j ≢ i) × (get_elem? l j ≡ some b))
  at_set [] i j a b e = absurd (some-ne-none b (sym e))
  at_set (x ∷ xs) zero zero a b e = inl (refl, some-injective a b e)
  at_set (x ∷ xs) zero (suc j) a b e = inr ((λ h. omega arith), e)
  at_set (x ∷ xs) (suc i) zero a b e = inr ((λ h. omega arith), e)
  at_set (x ∷ xs) (suc i) (suc j) a b e = ⊎_elim (λ t. inl (ap suc t.0, t.1)) (λ t. let n = t.0 in inr ((λ h. n (omega arith)), t.1)) (at_set xs i j a b e)

  pub set_else : (l : List A) (i j : ℕ) (a : A) → j ≢ i → get_elem? (set l i a) j ≡ get_elem? l j
  set_else [] i j a n = refl
  set_else (x ∷ xs) zero zero a n = absurd (n refl)
  set_else (x ∷ xs) zero (suc j) a n = refl
  set_else (x ∷ xs) (suc i) zero a n = refl
  set_else (x ∷ xs) (suc i) (suc j) a n = set_else xs i j a (λ e. n (ap suc e))

  pub at_snoc : (l : List A) (a b : A) (j : ℕ) → get_elem? (l ++ a ∷ []) j ≡ some b → (get_elem? l j ≡ some b) ⊎ (a ≡ b)
  at_snoc [] a b zero e = inr (some-injective a b e)
  at_snoc [] a b (suc j) e = absurd (some-ne-none b (sym e))
  at_snoc (x ∷ xs) a b zero e = inl e
  at_snoc (x ∷ xs) a b (suc j) e = at_snoc xs a b j e

  pub total-le : (f g : A → ℕ) (l : List A) → ((j : ℕ) (a : A) → get_elem? l j ≡ some a → f a ≤ g a) → total f l ≤ total g l
  total-le f g [] h = omega arith
  total-le f g (x ∷ xs) h = omega (arith, h 0 x refl, total-le f g xs (λ j a e. h (suc j) a e))

  pub total-plus : (f g : A → ℕ) (l : List A) → total (λ a. f a + g a) l ≡ total f l + total g l
  total-plus f g [] = refl
  total-plus f g (x ∷ xs) = omega (arith, total-plus f g xs)

  pub total-by_64 : (f : A → ℕ) (l : List A) → total (λ a. 64 * f a) l ≡ 64 * total f l
  total-by_64 f [] = refl
  total-by_64 f (x ∷ xs) = omega (arith, total-by_64 f xs)

  pub total-none : (l : List A) → total (λ _. 0) l ≡ 0
  total-none [] = refl
  total-none (x ∷ xs) = omega (arith, total-none xs)

  module _ (g : A → ℕ) where
    pub total-append : (l m : List A) → total g (l ++ m) ≡ total g l + total g m
    total-append [] m = omega arith
    total-append (x ∷ xs) m = omega (arith, total-append xs m)

    pub total-set : (l : List A) (j : ℕ) (v w : A) → get_elem? l j ≡ some v → total g (set l j w) + g v ≡ total g l + g w
    total-set [] j v w e = absurd (some-ne-none v (sym e))
    total-set (x ∷ xs) zero v w e = omega (arith, ap g (some-injective x v e))
    total-set (x ∷ xs) (suc j) v w e = omega (arith, total-set xs j v w e)

    pub term_le : (l : List A) (j : ℕ) (v : A) → get_elem? l j ≡ some v → g v ≤ total g l
    term_le [] j v e = absurd (some-ne-none v (sym e))
    term_le (x ∷ xs) zero v e = omega (arith, ap g (some-injective x v e))
    term_le (x ∷ xs) (suc j) v e = omega (arith, term_le xs j v e)

    pub terms_le : (l : List A) (j k : ℕ) (v u : A) → k ≢ j → get_elem? l j ≡ some v → get_elem? l k ≡ some u → g v + g u ≤ total g l
    terms_le [] j k v u n e d = absurd (some-ne-none v (sym e))
    terms_le (x ∷ xs) zero zero v u n e d = absurd (n refl)
    terms_le (x ∷ xs) zero (suc k) v u n e d = omega (arith, ap g (some-injective x v e), term_le xs k u d)
    terms_le (x ∷ xs) (suc j) zero v u n e d = omega (arith, ap g (some-injective x u d), term_le xs j v e)
    terms_le (x ∷ xs) (suc j) (suc k) v u n e d = omega (arith, terms_le xs j k v u (λ h. n (ap suc h)) e d)

pub below_more : (f : ℕ → ℕ) (n : ℕ) → below f (n + 1) ≡ below f n + f n
below_more f n = let e : n + 1 ≡ suc n = omega arith in ap (below f) e

pub past-yes : (g n : ℕ) → g ≤ n → past g n ≡ 1
past-yes g n h = ap (λ b. cond b 1 0) (le-leb g n h)

pub past-no : (g n : ℕ) → n < g → past g n ≡ 0
past-no g n h = ap (λ b. cond b 1 0) (lt-leb g n h)

pub past-le : (b : Bool) → cond b 1 0 ≤ 1
past-le true = omega arith
past-le false = omega arith

-- the draws are at most the groups and the numbers past them
pub below-past : (g n : ℕ) → n ≤ g + below (past g) n
below-past g zero = omega arith
below-past g (suc n) = by (nat_le g n) refl (below-past g n)
  where
    by : (b : Bool) → nat_le g n ≡ b → n ≤ g + below (past g) n → suc n ≤ g + (below (past g) n + cond b 1 0)
    by true e before = omega (arith, before)
    by false e before = omega (arith, leb-false g n e)

-- no number below n is n or more
pub below-none : (g n : ℕ) → n ≤ g → below (past g) n ≡ 0
below-none g zero h = refl
below-none g (suc n) h = let before : below (past g) n ≡ 0 = below-none g n (omega (arith, h)) in let here : past g n ≡ 0 = past-no g n (omega (arith, h)) in omega (arith, before, here)
