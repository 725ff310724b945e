-- The first place or transition of a walk that passes a test is the first of all, where each that passes is in the walk.
use Rattle.std.proofs.Common.{◌≡◌, ◌<◌, ◌≤◌, ◌+◌, ℕ, zero, suc, Bool, true, false, List, [], ◌∷◌, length, Option, Some, None, All, ap, ◌∙◌, subst, inl, inr, arith}
use Rattle.std.proofs.lemmas.Bool.{cases_lt, cases_Bool, lt-ltb, le-ltb}
use Rattle.std.proofs.lemmas.List.Elements.{All-head}
use Rattle.stg_net.specs.Graph.{Graph, IsPlace, IsDummy, takes, gives}
use Rattle.stg_arena.specs.WalkItems.{weighted, weighted_from}
use Rattle.stg_edit.specs.Walks.{taken_places, given_places, taking_trans, giving_trans}
use Rattle.stg_edit.specs.Drafts.{IsWeightlessPastLast}
use Rattle.stg_contract.proofs.WeightLists.{each_from}
use Rattle.stg_redundant.specs.inner.Tests.{first_of, first_in, is_same_place, is_same_dummy}
use Rattle.stg_redundant.specs.inner.Searches.{IsFirst}
use Rattle.stg_redundant.proofs.RuleTests.{same_place_is, same_dummy_is}

-- the first of the numbers from a on, m of them, that passes the test
abbrev IsFirstFrom : (ℕ → Bool) → ℕ → ℕ → Option ℕ → Type 0
IsFirstFrom test a m None = (u : ℕ) → a ≤ u → u < a + m → test u ≡ false
IsFirstFrom test a m (Some u) = (a ≤ u) × (u < a + m) × (test u ≡ true) × ((v : ℕ) → a ≤ v → v < u → test v ≡ false)

-- a number before that fails the test may be added
first_before : (test : ℕ → Bool) (a m : ℕ) (o : Option ℕ) → test a ≡ false
    → IsFirstFrom test (a + 1) m o → IsFirstFrom test a (suc m) o
first_before test a m None fails f = λ u low high. elim (cases_lt a u) [
  | inl l ↦ f u (omega (arith, l)) (omega (arith, high))
  | inr h ↦ ap test (let e : u ≡ a = omega (arith, h, low) in e) ∙ fails
]
first_before test a m (Some u) fails f = (
  omega (arith, f.0),
  omega (arith, f.1),
  f.2,
  λ v low high. elim (cases_lt a v) [
    | inl l ↦ f.3 v (omega (arith, l)) high
    | inr h ↦ ap test (let e : v ≡ a = omega (arith, h, low) in e) ∙ fails
  ],
)

-- where each number that passes has a weight, the first in the list is the first of all
first_from : (test : ℕ → Bool) (w : ℕ → ℕ) → ((q : ℕ) → test q ≡ true → 0 < w q) → (m a : ℕ)
    → IsFirstFrom test a m (first_in test (weighted_from w a m))
first_from test w some zero a = λ u low high. absurd (omega (arith, low, high))
first_from test w some (suc m) a =
    let rest = first_from test w some m (a + 1) in
    elim (cases_Bool (test a)) [
      | inl h ↦ rw (lt-ltb 0 (w a) (some a h)) (rw h (omega arith, omega arith, h, λ v low high. absurd (omega (arith, low, high))))
      | inr h ↦ elim (cases_lt 0 (w a)) [
        | inl has ↦ rw (lt-ltb 0 (w a) has) (rw h (first_before test a m (first_in test (weighted_from w (a + 1) m)) h rest))
        | inr none ↦ rw (le-ltb 0 (w a) none) (first_before test a m (first_in test (weighted_from w (a + 1) m)) h rest)
      ]
    ]

-- the first of the walk is the first of all
first-IsFirst : (test : ℕ → Bool) (w : ℕ → ℕ) (n : ℕ) → ((q : ℕ) → test q ≡ true → 0 < w q)
    → IsFirst test n (first_in test (weighted n w))
first-IsFirst test w n some = go (first_in test (weighted n w)) (first_from test w some n 0)
  where
    go : (o : Option ℕ) → IsFirstFrom test 0 n o → IsFirst test n o
    go None f = λ u low. f u (omega arith) (omega (arith, low))
    go (Some u) f = (omega (arith, f.1), f.2, λ v low. f.3 v (omega arith) low)

-- the first of a list has what all have
first_has : (P : ℕ → Type 0) (t : ℕ) (xs : List (ℕ × ℕ)) → All (λ (x : ℕ × ℕ). P x.0) xs
    → first_of xs ≡ Some t → P t
first_has P t [] all e = absurd (cc)
first_has P t (x ∷ xs) all e = subst P (let s : x.0 ≡ t = cc in s) (All-head (λ (x : ℕ × ℕ). P x.0) x xs all)

-- and it has a weight
pub first_weighs : (n : ℕ) (w : ℕ → ℕ) (t : ℕ) → first_of (weighted n w) ≡ Some t → 0 < w t
first_weighs n w t e = first_has (λ k. 0 < w k) t (weighted n w) (each_from (λ (x : ℕ × ℕ). 0 < w x.0) w n 0 (λ k l r some. some)) e

-- the first place from which the first taker takes, and that is the same, is the first of all
pub taken-IsFirst : (g : Graph) (p t : ℕ) → IsWeightlessPastLast g → IsPlace g p
    → first_of (taking_trans g p) ≡ Some t
    → IsFirst (is_same_place g p) (length g.places) (first_in (is_same_place g p) (taken_places g t))
taken-IsFirst g p t narrow live e = first-IsFirst (is_same_place g p) (takes g t) (length g.places)
    (λ q same. subst (λ k. 0 < k) ((same_place_is g p q narrow live same).taken t) (first_weighs (length g.trans) (λ u. takes g u p) t e))

-- so is the first one to which the first giver gives
pub given-IsFirst : (g : Graph) (p t : ℕ) → IsWeightlessPastLast g → IsPlace g p
    → first_of (giving_trans g p) ≡ Some t
    → IsFirst (is_same_place g p) (length g.places) (first_in (is_same_place g p) (given_places g t))
given-IsFirst g p t narrow live e = first-IsFirst (is_same_place g p) (gives g t) (length g.places)
    (λ q same. subst (λ k. 0 < k) ((same_place_is g p q narrow live same).given t) (first_weighs (length g.trans) (λ u. gives g u p) t e))

-- the first transition that takes from the first place from which t takes, and that is the same, is the first of all
pub takers-IsFirst : (g : Graph) (t p : ℕ) → IsDummy g t → first_of (taken_places g t) ≡ Some p
    → IsFirst (is_same_dummy g t) (length g.trans) (first_in (is_same_dummy g t) (taking_trans g p))
takers-IsFirst g t p dummy e = first-IsFirst (is_same_dummy g t) (λ u. takes g u p) (length g.trans)
    (λ u same. subst (λ k. 0 < k) ((same_dummy_is g t u dummy same).taken p) (first_weighs (length g.places) (takes g t) p e))

-- so is the first one that gives to the first place to which t gives
pub givers-IsFirst : (g : Graph) (t p : ℕ) → IsDummy g t → first_of (given_places g t) ≡ Some p
    → IsFirst (is_same_dummy g t) (length g.trans) (first_in (is_same_dummy g t) (giving_trans g p))
givers-IsFirst g t p dummy e = first-IsFirst (is_same_dummy g t) (λ u. gives g u p) (length g.trans)
    (λ u same. subst (λ k. 0 < k) ((same_dummy_is g t u dummy same).given p) (first_weighs (length g.places) (gives g t) p e))
