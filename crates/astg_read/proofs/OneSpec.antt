-- A text stands for one specification: its arcs in the order of a net are one list.
use Rattle.std.proofs.Common.{◌≡◌, ◌<◌, ℕ, zero, suc, List, [], ◌∷◌, inl, inr, ◌⊎◌, arith, get_or, length, refl, sym, ◌∙◌, subst, AllPairs}
use Rattle.std.specs.List.{Contains}
use Rattle.std.specs.List.Sorted.{IsPermutation}
use Rattle.std.proofs.lemmas.Bool.{true≢false}
use Rattle.std.proofs.lemmas.List.Sorted.{Contains-permutation, IsPermutation-sym, IsPermutation-trans}
use Rattle.stg_net.specs.declared.arc.NetArc.{NetArc}
use Rattle.stg_net.specs.Net.{IsBefore}
use Rattle.stg_net.specs.Spec.{SpecLists}
use Rattle.astg_read.specs.Reading.{Meaning, IsSpecOf}

module _ {X : Type 0} (R : X → X → Type 0) (once : (x y : X) → R x y → R y x → ⊥) where
  -- what stands in a list is the first, or comes after it
  in_front : (y : X) (ys : List X) (x : X) (k : ℕ) → AllPairs R (y ∷ ys) → k < length (y ∷ ys) → get_or (y ∷ ys) k x ≡ x → (y ≡ x) ⊎ R y x
  in_front y ys x zero all below is = inl is
  in_front y ys x (suc k) all below is = inr (subst (R y) is (all zero (suc k) x (omega arith) below))

  same_first : (x y : X) (xs ys : List X) → AllPairs R (x ∷ xs) → AllPairs R (y ∷ ys) → Contains (y ∷ ys) x → Contains (x ∷ xs) y → x ≡ y
  same_first x y xs ys all other h k = elim (in_front y ys x h.0 other h.1 h.2) [
    | inl e ↦ sym e
    | inr r ↦ elim (in_front x xs y k.0 all k.1 k.2) [ inl e ↦ e | inr s ↦ absurd (once y x r s) ]
  ]

  later : (y : X) (ys : List X) (z : X) (k : ℕ) → R y z → k < length (y ∷ ys) → get_or (y ∷ ys) k z ≡ z → Contains ys z
  later y ys z zero r below is = absurd (once y y (subst (R y) (sym is) r) (subst (R y) (sym is) r))
  later y ys z (suc k) r below is = (k, omega (arith, below), is)

  after_first : (x : X) (xs : List X) (z : X) → AllPairs R (x ∷ xs) → Contains xs z → R x z
  after_first x xs z all h = subst (R x) h.2 (all zero (suc h.0) z (omega arith) (omega (arith, h.1)))

  tail : (x : X) (xs : List X) → AllPairs R (x ∷ xs) → AllPairs R xs
  tail x xs all = λ i j d lt below. all (suc i) (suc j) d (omega (arith, lt)) (omega (arith, below))

  further : (x : X) (xs : List X) (z : X) → Contains xs z → Contains (x ∷ xs) z
  further x xs z h = (suc h.0, omega (arith, h.1), h.2)

  -- two lists in order with the same members are one
  one_order : (xs ys : List X) → AllPairs R xs → AllPairs R ys → ((z : X) → Contains xs z → Contains ys z) → ((z : X) → Contains ys z → Contains xs z) → xs ≡ ys
  one_order [] [] all other to from = refl
  one_order [] (y ∷ ys) all other to from = absurd (let h = from y (zero, omega arith, refl) in omega (arith, h.1))
  one_order (x ∷ xs) [] all other to from = absurd (let h = to x (zero, omega arith, refl) in omega (arith, h.1))
  one_order (x ∷ xs) (y ∷ ys) all other to from =
      let e = same_first x y xs ys all other (to x (zero, omega arith, refl)) (from y (zero, omega arith, refl)) in
      let rest = one_order xs ys (tail x xs all) (tail y ys other)
      (λ z h. let k = to z (further x xs z h) in later y ys z k.0 (subst (λ w. R w z) e (after_first x xs z all h)) k.1 k.2)
      (λ z h. let k = from z (further y ys z h) in later x xs z k.0 (subst (λ w. R w z) (sym e) (after_first y ys z other h)) k.1 k.2) in
      (λ j. e j ∷ rest j)

before_once : (a b : NetArc) → IsBefore a b → IsBefore b a → ⊥
before_once a b h k = grind (arith, true≢false)

-- arcs in order are the same arcs, whatever their order was before
pub one_permutation : (xs ys : List NetArc) → AllPairs IsBefore xs → AllPairs IsBefore ys → IsPermutation xs ys → ys ≡ xs
one_permutation xs ys all other moved = one_order IsBefore before_once ys xs other all
    (λ z h. Contains-permutation ys xs z (IsPermutation-sym xs ys moved) h)
    (λ z h. Contains-permutation xs ys z moved h)

-- what a text stands for is one specification
pub one_spec : (m : Meaning) (s r : SpecLists) → IsSpecOf m s → IsSpecOf m r → s ≡ r
one_spec m s r a b =
    let signals = a.signals ∙ sym b.signals in
    let trans = a.trans ∙ sym b.trans in
    let tokens = a.tokens ∙ sym b.tokens in
    let moved = IsPermutation-trans s.net.arcs m.lists.arcs r.net.arcs (IsPermutation-sym m.lists.arcs s.net.arcs a.arcs) b.arcs in
    let arcs = sym (one_permutation s.net.arcs r.net.arcs a.is_net.ordered b.is_net.ordered moved) in
    let names = a.place_names ∙ sym b.place_names in
    (λ i. record { net = record { signals = signals i; trans = trans i; tokens = tokens i; arcs = arcs i }; place_names = names i })
