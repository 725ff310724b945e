-- A list that has each number below n once has the sums of these numbers.
use Rattle.std.proofs.Common.{◌≡◌, ℕ, zero, suc, ◌+◌, ◌<◌, ◌≤◌, ◌≢◌, cond, eqb, eq-eqb, ne_eqb, List, [], ◌∷◌, ◌++◌, refl, ap, ◌∙◌, inl, inr, arith}
use Rattle.std.proofs.lemmas.Bool.{cases_order}
use mathlib.Core.Logic.{dite}
use native.Mathlib.Decide.{ℕ_discrete}
use Rattle.stg_crew.specs.Claims.{total, times, HasEachBelow}
use Rattle.stg_crew.proofs.Sums.{total-append, below}

-- 1 for k
abbrev pub only : ℕ → ℕ → ℕ
only k x = cond (eqb x k) 1 0

pub only_same : (k : ℕ) → only k k ≡ 1
only_same k = ap (λ b. cond b 1 0) (eq-eqb k k refl)

pub only_other : (k x : ℕ) → x ≢ k → only k x ≡ 0
only_other k x differ = ap (λ b. cond b 1 0) (ne_eqb x k differ)

-- a number that stands in a list splits it
pub record Around (k : ℕ) (list : List ℕ) : Type 0 where
  pub before : List ℕ
  pub after : List ℕ
  pub list_is : list ≡ before ++ k ∷ after

around : (k : ℕ) (list : List ℕ) → 1 ≤ times k list → Around k list
around k [] h = absurd (omega (arith, h))
around k (x ∷ xs) h = dite (ℕ_discrete x k)
    (λ e. record { before = []; after = xs; list_is = ap (λ y. y ∷ xs) e })
    (λ differ. let rest = around k xs (omega (arith, h, only_other k x differ)) in
    record { before = x ∷ rest.before; after = rest.after; list_is = ap (λ ys. x ∷ ys) rest.list_is })

-- the sum over a list without one of its numbers
without : (k : ℕ) (list : List ℕ) (a : Around k list) (f : ℕ → ℕ) → total f list ≡ total f (a.before ++ a.after) + f k
without k list a f = omega (arith, ap (total f) a.list_is, total-append f a.before (k ∷ a.after), total-append f a.before a.after)

none_left : (list : List ℕ) → HasEachBelow 0 list → (f : ℕ → ℕ) → total f list ≡ 0
none_left [] h f = refl
none_left (x ∷ xs) h f = absurd (omega (arith, h.no_other x (omega arith), only_same x))

-- without the last number, the list has each below it
one_less : (n : ℕ) (list : List ℕ) → HasEachBelow (suc n) list → (a : Around n list) → HasEachBelow n (a.before ++ a.after)
one_less n list h a = record {
  once = λ k below. omega (arith, h.once k (omega (arith, below)), without n list a (only k), only_other k n (λ e. omega (arith, e, below)));
  no_other = λ k above. dite (ℕ_discrete n k)
      (λ e. omega (arith, h.once k (omega (arith, e)), without n list a (only k), ap (only k) e, only_same k))
      (λ differ. omega (arith, h.no_other k (past k above differ), without n list a (only k), only_other k n differ));
}
  where
    past : (k : ℕ) → n ≤ k → n ≢ k → suc n ≤ k
    past k above differ = elim (cases_order n k) [
      | inl same ↦ absurd (differ same)
      | inr rest ↦ elim rest [
        | inl lower ↦ omega (arith, lower)
        | inr higher ↦ absurd (omega (arith, higher, above))
      ]
    ]

pub sums_below : (n : ℕ) (list : List ℕ) → HasEachBelow n list → (f : ℕ → ℕ) → total f list ≡ below f n
sums_below zero list h f = none_left list h f
sums_below (suc n) list h f =
    let a = around n list (omega (arith, h.once n (omega arith))) in
    omega (arith, without n list a f, sums_below n (a.before ++ a.after) (one_less n list h a) f)

-- and the other way round
below-only : (k n : ℕ) → (k < n → below (only k) n ≡ 1) × (n ≤ k → below (only k) n ≡ 0)
below-only k zero = (λ h. absurd (omega (arith, h)), λ _. refl)
below-only k (suc n) =
    let before = below-only k n in
    dite (ℕ_discrete n k)
    (λ e. let none_yet = before.1 (omega (arith, e)) in let one : only k n ≡ 1 = ap (only k) e ∙ only_same k in (λ h. omega (arith, none_yet, one), λ h. absurd (omega (arith, h, e))))
    (λ differ. let zero_here : only k n ≡ 0 = only_other k n differ in (λ h. omega (arith, before.0 (lower h differ), zero_here), λ h. omega (arith, before.1 (omega (arith, h)), zero_here)))
  where
    lower : k < suc n → n ≢ k → k < n
    lower h differ = elim (cases_order n k) [
      | inl same ↦ absurd (differ same)
      | inr rest ↦ elim rest [
        | inl under ↦ absurd (omega (arith, under, h))
        | inr over ↦ over
      ]
    ]

pub each_below : (n : ℕ) (list : List ℕ) → ((f : ℕ → ℕ) → total f list ≡ below f n) → HasEachBelow n list
each_below n list sums = record {
  once = λ k h. sums (only k) ∙ (below-only k n).0 h;
  no_other = λ k h. sums (only k) ∙ (below-only k n).1 h;
}
