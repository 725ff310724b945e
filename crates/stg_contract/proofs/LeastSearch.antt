-- The least two numbers: what the search over lists finds.
use Rattle.std.proofs.Common.{◌≡◌, ◌<◌, ◌≤◌, ◌⊎◌, ℕ, zero, suc, true, false, List, [], ◌∷◌, Option, Some, None, refl, sym, ◌∙◌, subst, inl, inr, arith}
use Rattle.std.proofs.lemmas.Bool.{cases_Bool, cases_lt, cases_eq, cases_order, lt-ltb, le-ltb, eq-eqb, ne_eqb, false≢true}
use Rattle.stg_net.specs.Graph.{Graph}
use Rattle.stg_edit.specs.Walks.{taking_trans}
use Rattle.stg_contract.specs.inner.Tests.{is_left}
use Rattle.stg_contract.specs.inner.Searches.{is_lower, lower_of, ordered_rivals, least_with, least_across, least_between, least_after, least_before, least_left_below}
use Rattle.stg_contract.proofs.WeightLists.{One}

-- x is y, or before it
abbrev pub IsUpTo : ℕ × ℕ → ℕ × ℕ → Type 0
IsUpTo x y = (x.0 < y.0) ⊎ ((x.0 ≡ y.0) × (x.1 ≤ y.1))

-- the option is the least two numbers of which P holds, or None where it holds of none
abbrev pub IsLeastOf : (ℕ × ℕ → Type 0) → Option (ℕ × ℕ) → Type 0
IsLeastOf P None = (y : ℕ × ℕ) → P y → ⊥
IsLeastOf P (Some x) = P x × ((y : ℕ × ℕ) → P y → IsUpTo x y)

-- the least of what is the same
pub least_same : (P Q : ℕ × ℕ → Type 0) (o : Option (ℕ × ℕ)) → ((y : ℕ × ℕ) → P y → Q y)
    → ((y : ℕ × ℕ) → Q y → P y) → IsLeastOf P o → IsLeastOf Q o
least_same P Q None to from least = λ y q. least y (from y q)
least_same P Q (Some x) to from least = (to x least.0, λ y q. least.1 y (from y q))

up_to_self : (x : ℕ × ℕ) → IsUpTo x x
up_to_self x = inr (refl, omega arith)

up_to_trans : (x y z : ℕ × ℕ) → IsUpTo x y → IsUpTo y z → IsUpTo x z
up_to_trans x y z (inl a) (inl b) = inl (omega (arith, a, b))
up_to_trans x y z (inl a) (inr b) = inl (omega (arith, a, b.0))
up_to_trans x y z (inr a) (inl b) = inl (omega (arith, a.0, b))
up_to_trans x y z (inr a) (inr b) = inr (a.0 ∙ b.0, omega (arith, a.1, b.1))

before_up : (x y : ℕ × ℕ) → is_lower x y ≡ true → IsUpTo x y
before_up x y e = elim (cases_order x.0 y.0) [
  | inl same ↦ elim (cases_lt x.1 y.1) [
    | inl l ↦ inr (same, omega (arith, l))
    | inr h ↦ absurd (cc_false (rw (le-ltb x.0 y.0 (omega (arith, same)), le-ltb x.1 y.1 h, eq-eqb x.0 y.0 same) at e))
  ]
  | inr (inl low) ↦ inl low
  | inr (inr high) ↦ absurd (cc_false (rw (le-ltb x.0 y.0 (omega (arith, high)), ne_eqb x.0 y.0 (λ s. omega (arith, s, high))) at e))
]
  where
    cc_false : false ≡ true → ⊥
    cc_false h = absurd (cc)

not_before_up : (x y : ℕ × ℕ) → is_lower x y ≡ false → IsUpTo y x
not_before_up x y e = elim (cases_order x.0 y.0) [
  | inl same ↦ elim (cases_lt x.1 y.1) [
    | inl l ↦ absurd (cc_true (rw (le-ltb x.0 y.0 (omega (arith, same)), lt-ltb x.1 y.1 l, eq-eqb x.0 y.0 same) at e))
    | inr h ↦ inr (sym same, h)
  ]
  | inr (inl low) ↦ absurd (cc_true (rw (lt-ltb x.0 y.0 low) at e))
  | inr (inr high) ↦ inl high
]
  where
    cc_true : true ≡ false → ⊥
    cc_true h = absurd (cc)

-- two more numbers
abbrev pub OrIs : (ℕ × ℕ → Type 0) → Option (ℕ × ℕ) → ℕ × ℕ → Type 0
OrIs P c y = P y ⊎ (c ≡ Some y)

some_same : (x y : ℕ × ℕ) → Some x ≡ Some y → x ≡ y
some_same x y e = cc

-- the lower one is the least of one more
pub lower_of-least : (P : ℕ × ℕ → Type 0) (c o : Option (ℕ × ℕ)) → IsLeastOf P o
    → IsLeastOf (OrIs P c) (lower_of c o)
lower_of-least P None None least = λ y p. elim p [ inl q ↦ least y q | inr e ↦ absurd (cc) ]
lower_of-least P None (Some x) least = (inl least.0, λ y p. elim p [ inl q ↦ least.1 y q | inr e ↦ absurd (cc) ])
lower_of-least P (Some x) None least = (inr refl, λ y p. elim p [ inl q ↦ absurd (least y q) | inr e ↦ rw (← some_same x y e) (up_to_self x) ])
lower_of-least P (Some x) (Some z) least = elim (cases_Bool (is_lower x z)) [
  | inl h ↦ rw h (inr refl, λ y p. elim p [ inl q ↦ up_to_trans x z y (before_up x z h) (least.1 y q) | inr e ↦ rw (← some_same x y e) (up_to_self x) ])
  | inr h ↦ rw h (inl least.0, λ y p. elim p [ inl q ↦ least.1 y q | inr e ↦ rw (← some_same x y e) (not_before_up x z h) ])
]

-- P, or that of one of the elements
abbrev pub OrOne : {X : Type 0} → (ℕ × ℕ → Type 0) → (X → ℕ × ℕ → Type 0) → List X → ℕ × ℕ → Type 0
OrOne P Q xs y = P y ⊎ One (λ x. Q x y) xs

one_more : {X : Type 0} (P : ℕ × ℕ → Type 0) (Q : X → ℕ × ℕ → Type 0) (x : X) (xs : List X) (y : ℕ × ℕ)
    → OrOne (λ y. P y ⊎ Q x y) Q xs y → OrOne P Q (x ∷ xs) y
one_more P Q x xs y (inl (inl p)) = inl p
one_more P Q x xs y (inl (inr q)) = inr (inl q)
one_more P Q x xs y (inr o) = inr (inr o)

one_less : {X : Type 0} (P : ℕ × ℕ → Type 0) (Q : X → ℕ × ℕ → Type 0) (x : X) (xs : List X) (y : ℕ × ℕ)
    → OrOne P Q (x ∷ xs) y → OrOne (λ y. P y ⊎ Q x y) Q xs y
one_less P Q x xs y (inl p) = inl (inl p)
one_less P Q x xs y (inr (inl q)) = inl (inr q)
one_less P Q x xs y (inr (inr o)) = inr o

none_more : (P : ℕ × ℕ → Type 0) (o : Option (ℕ × ℕ)) → IsLeastOf P o → IsLeastOf (λ y. P y ⊎ ⊥) o
none_more P o least = least_same P (λ y. P y ⊎ ⊥) o (λ y p. inl p) (λ y q. elim q [ inl p ↦ p | inr n ↦ absurd n ]) least

-- a clash of u with the transition of x
abbrev pub Clashes : Graph → ℕ → ℕ × ℕ → ℕ × ℕ → Type 0
Clashes g u v y = ordered_rivals g u v.0 ≡ Some y

-- the search finds the least of those that it goes through: u with each of the others
pub least_with-is : (g : Graph) (u : ℕ) (P : ℕ × ℕ → Type 0) (o : Option (ℕ × ℕ)) (vs : List (ℕ × ℕ))
    → IsLeastOf P o → IsLeastOf (OrOne P (Clashes g u) vs) (least_with g u o vs)
least_with-is g u P o [] least = none_more P o least
least_with-is g u P o (v ∷ vs) least =
    least_same (OrOne (λ y. P y ⊎ Clashes g u v y) (Clashes g u) vs) (OrOne P (Clashes g u) (v ∷ vs)) _ (one_more P (Clashes g u) v vs) (one_less P (Clashes g u) v vs)
    (least_with-is g u (OrIs P (ordered_rivals g u v.0)) (lower_of (ordered_rivals g u v.0) o) vs (lower_of-least P (ordered_rivals g u v.0) o least))

-- a clash of the transition of u with one of the others
abbrev pub ClashesIn : Graph → List (ℕ × ℕ) → ℕ × ℕ → ℕ × ℕ → Type 0
ClashesIn g vs u y = One (λ v. Clashes g u.0 v y) vs

-- each of one list with each of the other
pub least_across-is : (g : Graph) (vs : List (ℕ × ℕ)) (P : ℕ × ℕ → Type 0) (o : Option (ℕ × ℕ)) (us : List (ℕ × ℕ))
    → IsLeastOf P o → IsLeastOf (OrOne P (ClashesIn g vs) us) (least_across g vs o us)
least_across-is g vs P o [] least = none_more P o least
least_across-is g vs P o (u ∷ us) least =
    least_same (OrOne (λ y. P y ⊎ ClashesIn g vs u y) (ClashesIn g vs) us) (OrOne P (ClashesIn g vs) (u ∷ us)) _ (one_more P (ClashesIn g vs) u us) (one_less P (ClashesIn g vs) u us)
    (least_across-is g vs (OrOne P (Clashes g u.0) vs) (least_with g u.0 o vs) us (least_with-is g u.0 P o vs least))

-- a clash of a taker of p with a taker of the place of q
abbrev pub ClashesAt : Graph → ℕ → ℕ × ℕ → ℕ × ℕ → Type 0
ClashesAt g p q y = One (λ u. ClashesIn g (taking_trans g q.0) u y) (taking_trans g p)

-- each taker of p with each taker of the places
pub least_after-is : (g : Graph) (p : ℕ) (P : ℕ × ℕ → Type 0) (o : Option (ℕ × ℕ)) (qs : List (ℕ × ℕ))
    → IsLeastOf P o → IsLeastOf (OrOne P (ClashesAt g p) qs) (least_after g p o qs)
least_after-is g p P o [] least = none_more P o least
least_after-is g p P o (q ∷ qs) least =
    least_same (OrOne (λ y. P y ⊎ ClashesAt g p q y) (ClashesAt g p) qs) (OrOne P (ClashesAt g p) (q ∷ qs)) _ (one_more P (ClashesAt g p) q qs) (one_less P (ClashesAt g p) q qs)
    (least_after-is g p (OrOne P (ClashesIn g (taking_trans g q.0)) (taking_trans g p)) (least_between g q.0 o p) qs (least_across-is g (taking_trans g q.0) P o (taking_trans g p) least))

-- a clash of a taker of the place of p with a taker of one of the others
abbrev pub ClashesAfter : Graph → List (ℕ × ℕ) → ℕ × ℕ → ℕ × ℕ → Type 0
ClashesAfter g qs p y = One (λ q. ClashesAt g p.0 q y) qs

-- each taker of the first places with each taker of the others
pub least_before-is : (g : Graph) (qs : List (ℕ × ℕ)) (P : ℕ × ℕ → Type 0) (o : Option (ℕ × ℕ)) (ps : List (ℕ × ℕ))
    → IsLeastOf P o → IsLeastOf (OrOne P (ClashesAfter g qs) ps) (least_before g qs o ps)
least_before-is g qs P o [] least = none_more P o least
least_before-is g qs P o (p ∷ ps) least =
    least_same (OrOne (λ y. P y ⊎ ClashesAfter g qs p y) (ClashesAfter g qs) ps) (OrOne P (ClashesAfter g qs) (p ∷ ps)) _ (one_more P (ClashesAfter g qs) p ps) (one_less P (ClashesAfter g qs) p ps)
    (least_before-is g qs (OrOne P (ClashesAt g p.0) qs) (least_after g p.0 o qs) ps (least_after-is g p.0 P o qs least))

-- what is below the next number and isn't n is below n
below_other : (k n : ℕ) → (k ≡ n → ⊥) → k < suc n → k < n
below_other k n other below = elim (cases_lt k n) [ inl l ↦ l | inr h ↦ absurd (other (omega (arith, h, below))) ]

-- two takers of one place below n that is left are these two
pub record AtLeft (g : Graph) (t n : ℕ) (y : ℕ × ℕ) : Type 0 where
  pub place : ℕ
  pub below : place < n
  pub left : is_left g t place ≡ true
  pub clashes : ClashesAt g place (place, 0) y

-- P, or that
abbrev pub OrAtLeft : (ℕ × ℕ → Type 0) → Graph → ℕ → ℕ → ℕ × ℕ → Type 0
OrAtLeft P g t n y = P y ⊎ AtLeft g t n y

-- the least of those of which P holds and of two takers of one place below n that is left
pub least_left_below-is : (g : Graph) (t : ℕ) (P : ℕ × ℕ → Type 0) (o : Option (ℕ × ℕ)) (n : ℕ)
    → IsLeastOf P o → IsLeastOf (OrAtLeft P g t n) (least_left_below g t o n)
least_left_below-is g t P o zero least = least_same P (OrAtLeft P g t zero) o (λ y p. inl p) (λ y q. elim q [ inl p ↦ p | inr at ↦ absurd (omega (arith, at.below)) ]) least
least_left_below-is g t P o (suc n) least = elim (cases_Bool (is_left g t n)) [
  | inl h ↦ rw h (least_same (OrOne (OrAtLeft P g t n) (ClashesIn g (taking_trans g n)) (taking_trans g n)) (OrAtLeft P g t (suc n)) (least_between g n (least_left_below g t o n) n) (here h) (there h)
      (least_across-is g (taking_trans g n) (OrAtLeft P g t n) (least_left_below g t o n) (taking_trans g n) (least_left_below-is g t P o n least)))
  | inr h ↦ rw h (least_same (OrAtLeft P g t n) (OrAtLeft P g t (suc n)) (least_left_below g t o n) (λ y q. elim q [ inl p ↦ inl p | inr at ↦ inr (later y at) ]) (earlier h) (least_left_below-is g t P o n least))
]
  where
    later : (y : ℕ × ℕ) → AtLeft g t n y → AtLeft g t (suc n) y
    later y at = record { place = at.place; below = omega (arith, at.below); left = at.left; clashes = at.clashes }

    here : is_left g t n ≡ true → (y : ℕ × ℕ)
        → OrOne (OrAtLeft P g t n) (ClashesIn g (taking_trans g n)) (taking_trans g n) y
        → OrAtLeft P g t (suc n) y
    here h y (inl (inl p)) = inl p
    here h y (inl (inr at)) = inr (later y at)
    here h y (inr c) = inr (record { place = n; below = omega arith; left = h; clashes = c })

    there : is_left g t n ≡ true → (y : ℕ × ℕ) → OrAtLeft P g t (suc n) y
        → OrOne (OrAtLeft P g t n) (ClashesIn g (taking_trans g n)) (taking_trans g n) y
    there h y (inl p) = inl (inl p)
    there h y (inr at) = elim (cases_eq at.place n) [
      | inl e ↦ inr (subst (λ k. ClashesAt g k (k, 0) y) e at.clashes)
      | inr other ↦ inl (inr (record { place = at.place; below = below_other at.place n other at.below; left = at.left; clashes = at.clashes }))
    ]

    earlier : is_left g t n ≡ false → (y : ℕ × ℕ) → OrAtLeft P g t (suc n) y → OrAtLeft P g t n y
    earlier h y (inl p) = inl p
    earlier h y (inr at) = elim (cases_eq at.place n) [
      | inl e ↦ absurd (false≢true (sym h ∙ subst (λ k. is_left g t k ≡ true) e at.left))
      | inr other ↦ inr (record { place = at.place; below = below_other at.place n other at.below; left = at.left; clashes = at.clashes })
    ]
