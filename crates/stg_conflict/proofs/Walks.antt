-- What walks give: live nodes, and those that pass a test.
use Rattle.std.proofs.Common.{◌≡◌, ◌<◌, ◌≤◌, ◌+◌, ◌||◌, ℕ, zero, suc, Bool, true, false, List, ◌∷◌, refl, sym, ap, ◌∙◌, subst, inl, inr, arith}
use Rattle.std.specs.List.{list_any, range_with_len}
use Rattle.std.proofs.lemmas.Bool.{cases_lt, cases_Bool, lt-ltb, le-ltb, false≢true}
use Rattle.std.proofs.lemmas.List.Elements.{All-tail}
use Rattle.stg_net.specs.Graph.{Graph, IsPlace, IsTrans}
use Rattle.stg_arena.specs.WalkItems.{weighted_from}
use Rattle.stg_conflict.specs.inner.Labels.{WalksPlaces, WalksTrans}

-- what is left of a walk along live places, or transitions, is one
pub places_later : (g : Graph) (x : ℕ × ℕ) (all rest : List (ℕ × ℕ)) → all ≡ x ∷ rest → WalksPlaces g all → WalksPlaces g rest
places_later g x all rest e live = All-tail (λ (x : ℕ × ℕ). IsPlace g x.0) x rest (subst (WalksPlaces g) e live)

pub trans_later : (g : Graph) (x : ℕ × ℕ) (all rest : List (ℕ × ℕ)) → all ≡ x ∷ rest → WalksTrans g all → WalksTrans g rest
trans_later g x all rest e live = All-tail (λ (x : ℕ × ℕ). IsTrans g x.0) x rest (subst (WalksTrans g) e live)

-- a number that has a weight passes the test with it
pub record Passing (f : ℕ × ℕ → Bool) (w : ℕ → ℕ) (a m : ℕ) : Type 0 where
  pub number : ℕ
  pub low : a ≤ number
  pub high : number < a + m
  pub some : 0 < w number
  pub passes : f (number, w number) ≡ true

-- where a test of a walk passes, it does for such a number
pub walk_passes : (f : ℕ × ℕ → Bool) (w : ℕ → ℕ) (m a : ℕ) → list_any f (weighted_from w a m) ≡ true → Passing f w a m
walk_passes f w zero a e = absurd (false≢true e)
walk_passes f w (suc m) a e = elim (cases_lt 0 (w a)) [
  | inr none ↦ later (walk_passes f w m (a + 1) (rw (le-ltb 0 (w a) none) at e))
  | inl some ↦ elim (cases_Bool (f (a, w a))) [
    | inl here ↦ record { number = a; low = omega arith; high = omega arith; some = some; passes = here }
    | inr not_here ↦ later (walk_passes f w m (a + 1) (rw not_here at (rw (lt-ltb 0 (w a) some) at e)))
  ]
]
  where
    later : Passing f w (a + 1) m → Passing f w a (suc m)
    later p = record { number = p.number; low = omega (arith, p.low); high = omega (arith, p.high); some = p.some; passes = p.passes }

-- and the other way round
pub passes_walk : (f : ℕ × ℕ → Bool) (w : ℕ → ℕ) (m a : ℕ) → Passing f w a m → list_any f (weighted_from w a m) ≡ true
passes_walk f w zero a p = absurd (omega (arith, p.low, p.high))
passes_walk f w (suc m) a p = elim (cases_lt 0 (w a)) [
  | inr none ↦ elim (cases_lt a p.number) [
    | inl past ↦ rw (le-ltb 0 (w a) none) (passes_walk f w m (a + 1) (later past))
    | inr up_to ↦ let e : p.number ≡ a = omega (arith, up_to, p.low) in absurd (omega (arith, none, subst (λ k. 0 < w k) e p.some))
  ]
  | inl some ↦ elim (cases_Bool (f (a, w a))) [
    | inl here ↦ rw (lt-ltb 0 (w a) some) (rw here refl)
    | inr not_here ↦ elim (cases_lt a p.number) [
      | inl past ↦ rw (lt-ltb 0 (w a) some) (rw not_here (passes_walk f w m (a + 1) (later past)))
      | inr up_to ↦ let e : p.number ≡ a = omega (arith, up_to, p.low) in absurd (false≢true (sym not_here ∙ subst (λ k. f (k, w k) ≡ true) e p.passes))
    ]
  ]
]
  where
    later : a < p.number → Passing f w (a + 1) m
    later past = record { number = p.number; low = omega (arith, past); high = omega (arith, p.high); some = p.some; passes = p.passes }

-- a number of a range passes the test
pub record PassingIn (f : ℕ → Bool) (a m : ℕ) : Type 0 where
  pub number : ℕ
  pub low : a ≤ number
  pub high : number < a + m
  pub passes : f number ≡ true

pub range_passes : (f : ℕ → Bool) (m a : ℕ) → list_any f (range_with_len a m) ≡ true → PassingIn f a m
range_passes f zero a e = absurd (false≢true e)
range_passes f (suc m) a e = elim (cases_Bool (f a)) [
  | inl here ↦ record { number = a; low = omega arith; high = omega arith; passes = here }
  | inr not_here ↦ later (range_passes f m (a + 1) (rw not_here at e))
]
  where
    later : PassingIn f (a + 1) m → PassingIn f a (suc m)
    later p = record { number = p.number; low = omega (arith, p.low); high = omega (arith, p.high); passes = p.passes }

pub passes_range : (f : ℕ → Bool) (m a k : ℕ) → a ≤ k → k < a + m → f k ≡ true → list_any f (range_with_len a m) ≡ true
passes_range f zero a k low high e = absurd (omega (arith, low, high))
passes_range f (suc m) a k low high e = elim (cases_Bool (f a)) [
  | inl here ↦ rw here refl
  | inr not_here ↦ elim (cases_lt a k) [
    | inl past ↦ rw not_here (passes_range f m (a + 1) k (omega (arith, past)) (omega (arith, high)) e)
    | inr up_to ↦ let same : k ≡ a = omega (arith, up_to, low) in absurd (false≢true (sym not_here ∙ subst (λ j. f j ≡ true) same e))
  ]
]

-- one more number of a range
pub range_more : (f : ℕ → Bool) (n a : ℕ) → list_any f (range_with_len a (suc n)) ≡ (list_any f (range_with_len a n) || f (a + n))
range_more f zero a = either_last (f a) (f (a + 0)) (ap f (let e : a ≡ a + 0 = omega arith in e))
  where
    either_last : (x y : Bool) → x ≡ y → (x || false) ≡ y
    either_last true y e = e
    either_last false y e = e
range_more f (suc n) a =
    ap (λ b. f a || b) (range_more f n (a + 1) ∙ ap (λ k. list_any f (range_with_len (a + 1) n) || f k) (let e : (a + 1) + n ≡ a + suc n = omega arith in e))
    ∙ grouped (f a) (list_any f (range_with_len (a + 1) n)) (f (a + suc n))
  where
    grouped : (x y z : Bool) → (x || (y || z)) ≡ ((x || y) || z)
    grouped true y z = refl
    grouped false y z = refl
