-- How many transitions have an arc at one of two places.
use Rattle.std.proofs.Common.{◌≡◌, ◌<◌, ◌≤◌, ◌+◌, ◌&&◌, ◌==◌, ℕ, zero, suc, Bool, true, false, not, cond, List, [], ◌∷◌, length, filter, ltb, eqb, eq-eqb, refl, inl, inr, arith}
use Rattle.std.proofs.lemmas.Bool.{cases_lt, cases_Bool, ne_eqb, lt-ltb, le-ltb}
use Rattle.stg_net.specs.Graph.{Graph}
use Rattle.stg_arena.specs.WalkItems.{weighted_from}
use Rattle.stg_edit.proofs.Counted.{weighted_few}
use Rattle.stg_contract.specs.inner.Weights.{weight_in, arc_weight, trans_round}
use Rattle.stg_contract.specs.inner.Counts.{is_other, is_apart, count_others, count_apart, count_either}
use Rattle.stg_contract.proofs.WeightLists.{weight_in-weighted}

-- no more pass than there are
pub length-filter_less : {X : Type 0} (f : X → Bool) (xs : List X) → length (filter f xs) ≤ length xs
length-filter_less f [] = omega arith
length-filter_less f (x ∷ xs) = elim (cases_Bool (f x)) [
  | inl h ↦ rw h (omega (arith, length-filter_less f xs))
  | inr h ↦ rw h (omega (arith, length-filter_less f xs))
]

-- the weights of two places together, but those of t
abbrev together : ℕ → (ℕ → ℕ) → (ℕ → ℕ) → ℕ → ℕ
together t v w u = cond (eqb u t) 0 (v u + w u)

length-filter_step : (f : ℕ × ℕ → Bool) (w : ℕ → ℕ) (m a : ℕ)
    → length (filter f (weighted_from w a (suc m))) ≡ cond (ltb 0 (w a)) (cond (f (a, w a)) 1 0) 0 + length (filter f (weighted_from w (a + 1) m))
length-filter_step f w m a = elim (cases_Bool (ltb 0 (w a))) [
  | inl h ↦ rw h (elim (cases_Bool (f (a, w a))) [ inl k ↦ rw k (omega arith) | inr k ↦ rw k (omega arith) ])
  | inr h ↦ rw h (omega arith)
]

length-weighted_step : (w : ℕ → ℕ) (m a : ℕ)
    → length (weighted_from w a (suc m)) ≡ cond (ltb 0 (w a)) 1 0 + length (weighted_from w (a + 1) m)
length-weighted_step w m a = elim (cases_Bool (ltb 0 (w a))) [ inl h ↦ rw h (omega arith) | inr h ↦ rw h (omega arith) ]

-- a number that has a weight in one of two lists stands in the second, or in the first apart from it
either_step : (same : Bool) (v w y : ℕ) → y ≡ w
    → cond (ltb 0 (cond same 0 (v + w))) 1 0 ≡ cond (ltb 0 v) (cond (not same && (y == 0)) 1 0) 0 + cond (ltb 0 w) (cond (not same) 1 0) 0
either_step true v w y e = elim (cases_Bool (ltb 0 v)) [
  | inl h ↦ rw h (elim (cases_Bool (ltb 0 w)) [ inl k ↦ rw k refl | inr k ↦ rw k refl ])
  | inr h ↦ rw h (elim (cases_Bool (ltb 0 w)) [ inl k ↦ rw k refl | inr k ↦ rw k refl ])
]
either_step false v w y e = rw e (elim (cases_lt 0 v) [
  | inl h ↦ elim (cases_lt 0 w) [
    | inl k ↦ rw (lt-ltb 0 v h, lt-ltb 0 w k, lt-ltb 0 (v + w) (omega (arith, h, k)), ne_eqb w 0 (λ z. omega (arith, k, z))) refl
    | inr k ↦ rw (lt-ltb 0 v h, le-ltb 0 w k, lt-ltb 0 (v + w) (omega (arith, h, k)), eq-eqb w 0 (omega (arith, k))) refl
  ]
  | inr h ↦ elim (cases_lt 0 w) [
    | inl k ↦ rw (le-ltb 0 v h, lt-ltb 0 w k, lt-ltb 0 (v + w) (omega (arith, h, k))) refl
    | inr k ↦ rw (le-ltb 0 v h, le-ltb 0 w k, le-ltb 0 (v + w) (omega (arith, h, k))) refl
  ]
])

either_from : (t : ℕ) (v w : ℕ → ℕ) (ys : List (ℕ × ℕ)) (m a : ℕ)
    → ((k : ℕ) → a ≤ k → k < a + m → weight_in k ys ≡ w k)
    → length (weighted_from (together t v w) a m) ≡ count_apart t ys (weighted_from v a m) + count_others t (weighted_from w a m)
either_from t v w ys zero a same = refl
either_from t v w ys (suc m) a same = omega (
  arith,
  either_from t v w ys m (a + 1) (λ k l r. same k (omega (arith, l)) (omega (arith, r))),
  either_step (eqb a t) (v a) (w a) (weight_in a ys) (same a (omega arith) (omega arith)),
  length-weighted_step (together t v w) m a,
  length-filter_step (is_apart t ys) v m a,
  length-filter_step (is_other t) w m a,
)

-- those at p or at q are those at p that are apart from q, and those at q
pub count_either-apart : (take : Bool) (g : Graph) (t p q : ℕ)
    → count_either take g t p q ≡ count_apart t (trans_round take g q) (trans_round take g p) + count_others t (trans_round take g q)
count_either-apart take g t p q =
    either_from t (λ u. arc_weight take g u p) (λ u. arc_weight take g u q) (trans_round take g q) (length g.trans) 0 (λ k l r. weight_in-weighted (λ u. arc_weight take g u q) (length g.trans) 0 k l r)

-- there are no more than transitions
pub count_either-less : (take : Bool) (g : Graph) (t p q : ℕ) → count_either take g t p q ≤ length g.trans
count_either-less take g t p q = weighted_few (length g.trans) (together t (λ u. arc_weight take g u p) (λ u. arc_weight take g u q))
