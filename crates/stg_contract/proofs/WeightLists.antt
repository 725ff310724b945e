-- What stands in the lists that walks give.
use Rattle.std.proofs.Common.{◌≡◌, ◌<◌, ◌≤◌, ◌+◌, ◌⊎◌, ℕ, zero, suc, Bool, true, false, List, [], ◌∷◌, eq-eqb, is_some, All, refl, sym, ap, ◌∙◌, subst, inl, inr, arith}
use Rattle.std.specs.List.{list_all, list_any}
use Rattle.std.proofs.lemmas.Bool.{cases_lt, cases_eq, cases_Bool, ne_eqb, lt-ltb, le-ltb, false≢true}
use Rattle.std.proofs.lemmas.List.Elements.{All-nil, All-cons, All-head, All-tail}
use Rattle.stg_net.specs.Graph.{Graph, IsPlace, IsTrans, full_name_at}
use Rattle.stg_arena.specs.WalkItems.{weighted_from}
use Rattle.stg_contract.specs.inner.Weights.{weight_in, ArePlaces, AreTrans}

-- P holds of one of the elements
abbrev pub One : {X : Type 0} → (X → Type 0) → List X → Type 0
One P [] = ⊥
One P (x ∷ xs) = P x ⊎ One P xs

-- P holds of a number that has a weight
pub record Found (P : ℕ × ℕ → Type 0) (w : ℕ → ℕ) (a m : ℕ) : Type 0 where
  pub number : ℕ
  pub low : a ≤ number
  pub high : number < a + m
  pub some : 0 < w number
  pub holds : P (number, w number)

-- what holds of each number that has a weight holds of each element
pub each_from : (P : ℕ × ℕ → Type 0) (w : ℕ → ℕ) (m a : ℕ)
    → ((k : ℕ) → a ≤ k → k < a + m → 0 < w k → P (k, w k)) → All P (weighted_from w a m)
each_from P w zero a h = All-nil P
each_from P w (suc m) a h =
    let rest = each_from P w m (a + 1) (λ k l r. h k (omega (arith, l)) (omega (arith, r))) in
    elim (cases_lt 0 (w a)) [
      | inl some ↦ rw (lt-ltb 0 (w a) some) (All-cons P (a, w a) (weighted_from w (a + 1) m) (h a (omega arith) (omega arith) some) rest)
      | inr none ↦ rw (le-ltb 0 (w a) none) rest
    ]

-- what holds of an element holds of a number that has a weight
pub one_to : (P : ℕ × ℕ → Type 0) (w : ℕ → ℕ) (m a : ℕ) → One P (weighted_from w a m) → Found P w a m
one_to P w zero a o = absurd o
one_to P w (suc m) a o = elim (cases_lt 0 (w a)) [
  | inl some ↦ first (one_to P w m (a + 1)) some (rw (lt-ltb 0 (w a) some) at o)
  | inr none ↦ later (one_to P w m (a + 1) (rw (le-ltb 0 (w a) none) at o))
]
  where
    later : Found P w (a + 1) m → Found P w a (suc m)
    later f = record { number = f.number; low = omega (arith, f.low); high = omega (arith, f.high); some = f.some; holds = f.holds }

    first : (One P (weighted_from w (a + 1) m) → Found P w (a + 1) m) → 0 < w a
        → P (a, w a) ⊎ One P (weighted_from w (a + 1) m) → Found P w a (suc m)
    first go some (inl p) = record { number = a; low = omega arith; high = omega arith; some = some; holds = p }
    first go some (inr o) = later (go o)

-- and the other way round
pub one_from : (P : ℕ × ℕ → Type 0) (w : ℕ → ℕ) (m a : ℕ) → Found P w a m → One P (weighted_from w a m)
one_from P w zero a f = absurd (omega (arith, f.low, f.high))
one_from P w (suc m) a f = elim (cases_eq f.number a) [
  | inl e ↦ let some : 0 < w a = subst (λ k. 0 < w k) e f.some in rw (lt-ltb 0 (w a) some) (inl (subst (λ k. P (k, w k)) e f.holds))
  | inr n ↦
      let rest = one_from P w m (a + 1) (record { number = f.number; low = above n f.low; high = omega (arith, f.high); some = f.some; holds = f.holds }) in
      elim (cases_lt 0 (w a)) [
        | inl some ↦ rw (lt-ltb 0 (w a) some) (inr rest)
        | inr none ↦ rw (le-ltb 0 (w a) none) rest
      ]
]
  where
    above : (f.number ≡ a → ⊥) → a ≤ f.number → a + 1 ≤ f.number
    above n l = elim (cases_lt a f.number) [ inl h ↦ omega (arith, h) | inr h ↦ absurd (n (omega (arith, h, l))) ]

-- tests of lists
pub any_one : {X : Type 0} (f : X → Bool) (xs : List X) → list_any f xs ≡ true → One (λ x. f x ≡ true) xs
any_one f [] e = absurd (false≢true e)
any_one f (x ∷ xs) e = elim (cases_Bool (f x)) [
  | inl h ↦ inl h
  | inr h ↦ inr (any_one f xs (rw h at e))
]

-- and where one passes, one is found
pub one_any : {X : Type 0} (f : X → Bool) (xs : List X) → One (λ x. f x ≡ true) xs → list_any f xs ≡ true
one_any f [] o = absurd o
one_any f (x ∷ xs) (inl h) = rw h refl
one_any f (x ∷ xs) (inr o) = elim (cases_Bool (f x)) [
  | inl h ↦ rw h refl
  | inr h ↦ rw h (one_any f xs o)
]

-- where not all pass, one fails
pub not_all_one : {X : Type 0} (f : X → Bool) (xs : List X) → list_all f xs ≡ false → One (λ x. f x ≡ false) xs
not_all_one f [] e = absurd (false≢true (sym e))
not_all_one f (x ∷ xs) e = elim (cases_Bool (f x)) [
  | inl h ↦ inr (not_all_one f xs (rw h at e))
  | inr h ↦ inl h
]

-- and where one fails, not all pass
pub one_not_all : {X : Type 0} (f : X → Bool) (xs : List X) → One (λ x. f x ≡ false) xs → list_all f xs ≡ false
one_not_all f [] o = absurd o
one_not_all f (x ∷ xs) (inl h) = rw h refl
one_not_all f (x ∷ xs) (inr o) = elim (cases_Bool (f x)) [
  | inl h ↦ rw h (one_not_all f xs o)
  | inr h ↦ rw h refl
]

-- places that are left of a list of live ones are live
pub live_later : (g : Graph) (x : ℕ × ℕ) (all rest : List (ℕ × ℕ)) → all ≡ x ∷ rest → ArePlaces g all
    → ArePlaces g rest
live_later g x all rest e live = All-tail (λ (x : ℕ × ℕ). IsPlace g x.0) x rest (subst (ArePlaces g) e live)

-- the weight that a list gives is the weight
pub weight_in-weighted : (w : ℕ → ℕ) (m a k : ℕ) → a ≤ k → k < a + m → weight_in k (weighted_from w a m) ≡ w k
weight_in-weighted w zero a k l r = absurd (omega (arith, l, r))
weight_in-weighted w (suc m) a k l r = elim (cases_eq a k) [
  | inl e ↦ elim (cases_lt 0 (w a)) [
    | inl some ↦ rw (lt-ltb 0 (w a) some) (rw (eq-eqb a k e) (ap w e))
    | inr none ↦ rw (le-ltb 0 (w a) none) (past w m (a + 1) k (omega (arith, e)) ∙ (let z : 0 ≡ w a = omega (arith, none) in z) ∙ ap w e)
  ]
  | inr n ↦
      let rest = weight_in-weighted w m (a + 1) k (elim (cases_lt a k) [ inl h ↦ omega (arith, h) | inr h ↦ absurd (n (omega (arith, h, l))) ]) (omega (arith, r)) in
      elim (cases_lt 0 (w a)) [
        | inl some ↦ rw (lt-ltb 0 (w a) some) (rw (ne_eqb a k n) rest)
        | inr none ↦ rw (le-ltb 0 (w a) none) rest
      ]
]
  where
    past : (w : ℕ → ℕ) (m a k : ℕ) → k < a → weight_in k (weighted_from w a m) ≡ 0
    past w zero a k h = refl
    past w (suc m) a k h = elim (cases_lt 0 (w a)) [
      | inl some ↦ rw (lt-ltb 0 (w a) some) (rw (ne_eqb a k (λ e. omega (arith, h, e))) (past w m (a + 1) k (omega (arith, h))))
      | inr none ↦ rw (le-ltb 0 (w a) none) (past w m (a + 1) k (omega (arith, h)))
    ]

-- a transition with a weight is live, where those that aren't live have none
pub live_where : (g : Graph) (u : ℕ) (w : ℕ) → 0 < w → (is_some (full_name_at g u) ≡ false → w ≡ 0) → IsTrans g u
live_where g u w some none = elim (cases_Bool (is_some (full_name_at g u))) [ inl h ↦ h | inr h ↦ absurd (omega (arith, some, none h)) ]

-- transitions that are left of a list of live ones are live
pub trans_later : (g : Graph) (x : ℕ × ℕ) (all rest : List (ℕ × ℕ)) → all ≡ x ∷ rest → AreTrans g all
    → AreTrans g rest
trans_later g x all rest e live = All-tail (λ (x : ℕ × ℕ). IsTrans g x.0) x rest (subst (AreTrans g) e live)

-- and the first one
pub trans_first : (g : Graph) (x : ℕ × ℕ) (all rest : List (ℕ × ℕ)) → all ≡ x ∷ rest → AreTrans g all
    → IsTrans g x.0
trans_first g x all rest e live = All-head (λ (x : ℕ × ℕ). IsTrans g x.0) x rest (subst (AreTrans g) e live)
