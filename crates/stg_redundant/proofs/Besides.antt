-- How a watch gets besides what a loop goes through.
use Rattle.std.proofs.Common.{◌≡◌, ◌<◌, ◌≤◌, ◌+◌, ◌⊎◌, ◌↔◌, ◌++◌, ℕ, suc, true, Bool, List, [], ◌∷◌, length, get_or, Contains, Result, Ok, Err, OnOk, sym, ap, ◌∙◌, subst, inl, inr, arith}
use Rattle.std.proofs.lemmas.Bool.{cases_lt}
use Rattle.std.proofs.lemmas.List.{get_or_default}
use Rattle.std.proofs.lemmas.List.Elements.{Contains-append_left, Contains-push}
use Rattle.stg_redundant.specs.inner.Chains.{IsAmong}
use Rattle.stg_redundant.specs.Watching.{HasBesides}
use Rattle.stg_redundant.proofs.WatchLists.{contains_split}

-- what the list has, and what is left, make what it had and all that is more
abbrev pub HasBesidesButLeft : (ℕ → Type 0) → (ℕ → Type 0) → List ℕ → List ℕ → Type 0
HasBesidesButLeft IsMore IsLeft old now =
    (p : ℕ) → (Contains now p ⊎ IsLeft p) ↔ (Contains old p ⊎ IsMore p)

-- at first all is left
pub all_left : (IsMore IsLeft : ℕ → Type 0) (old : List ℕ) → ((p : ℕ) → IsLeft p ↔ IsMore p)
    → HasBesidesButLeft IsMore IsLeft old old
all_left IsMore IsLeft old same p = (one (same p).0, one (same p).1)
  where
    one : {A B : Type 0} → (A → B) → Contains old p ⊎ A → Contains old p ⊎ B
    one f (inl c) = inl c
    one f (inr a) = inr (f a)

-- where a step is left and added, less is left
pub step_added : (IsMore IsStep IsLeft IsRest : ℕ → Type 0) (old now next : List ℕ)
    → ((p : ℕ) → IsLeft p ↔ (IsStep p ⊎ IsRest p)) → HasBesides IsStep now next
    → HasBesidesButLeft IsMore IsLeft old now → HasBesidesButLeft IsMore IsRest old next
step_added IsMore IsStep IsLeft IsRest old now next split added before p = (to, from)
  where
    to : Contains next p ⊎ IsRest p → Contains old p ⊎ IsMore p
    to (inl c) = elim ((added p).0 c) [ inl d ↦ (before p).0 (inl d) | inr s ↦ (before p).0 (inr ((split p).1 (inl s))) ]
    to (inr r) = (before p).0 (inr ((split p).1 (inr r)))

    from : Contains old p ⊎ IsMore p → Contains next p ⊎ IsRest p
    from h = elim ((before p).1 h) [
      | inl c ↦ inl ((added p).1 (inl c))
      | inr l ↦ elim ((split p).0 l) [ inl s ↦ inl ((added p).1 (inr s)) | inr r ↦ inr r ]
    ]

-- at the end nothing is left
pub none_left : (IsMore IsLeft : ℕ → Type 0) (old now : List ℕ) → ((p : ℕ) → IsLeft p → ⊥)
    → HasBesidesButLeft IsMore IsLeft old now → HasBesides IsMore old now
none_left IsMore IsLeft old now none before p = (λ c. (before p).0 (inl c), from)
  where
    from : Contains old p ⊎ IsMore p → Contains now p
    from h = elim ((before p).1 h) [ inl c ↦ c | inr l ↦ absurd (none p l) ]

-- what is put at the end of a list is there besides
pub push_has : (xs : List ℕ) (x : ℕ) → HasBesides (λ q. q ≡ x) xs (xs ++ x ∷ [])
push_has xs x q = (to xs, from)
  where
    to : (xs : List ℕ) → Contains (xs ++ x ∷ []) q → Contains xs q ⊎ (q ≡ x)
    to [] c = elim (contains_split x q [] c) [ inl d ↦ absurd (omega (arith, d.1)) | inr e ↦ inr e ]
    to (y ∷ xs) c = elim (contains_split y q (xs ++ x ∷ []) c) [
      | inr e ↦ inl (0, omega arith, sym e)
      | inl d ↦ elim (to xs d) [ inl h ↦ inl (suc h.0, omega (arith, h.1), h.2) | inr e ↦ inr e ]
    ]

    from : Contains xs q ⊎ (q ≡ x) → Contains (xs ++ x ∷ []) q
    from (inl c) = Contains-append_left xs (x ∷ []) q c
    from (inr e) = subst (Contains (xs ++ x ∷ [])) (sym e) (Contains-push xs x)

-- what is among the elements of a walk is the first one or among the others
pub among_split : (x : ℕ × ℕ) (whole left : List (ℕ × ℕ)) → whole ≡ x ∷ left → (p : ℕ)
    → IsAmong p whole ↔ ((p ≡ x.0) ⊎ IsAmong p left)
among_split x whole left e p = (λ h. to (subst (IsAmong p) e h), λ h. subst (IsAmong p) (sym e) (from h))
  where
    to : IsAmong p (x ∷ left) → (p ≡ x.0) ⊎ IsAmong p left
    to (inl same) = inl (sym same)
    to (inr later) = inr later

    from : (p ≡ x.0) ⊎ IsAmong p left → IsAmong p (x ∷ left)
    from (inl same) = inl (sym same)
    from (inr later) = inr later

-- so it is with those that pass a test
pub passing_split : (test : ℕ → Bool) (x : ℕ × ℕ) (whole left : List (ℕ × ℕ)) → whole ≡ x ∷ left → (p : ℕ)
    → (IsAmong p whole × (test p ≡ true)) ↔ (((p ≡ x.0) × (test p ≡ true)) ⊎ (IsAmong p left × (test p ≡ true)))
passing_split test x whole left e p = (to, from)
  where
    to : IsAmong p whole × (test p ≡ true) → ((p ≡ x.0) × (test p ≡ true)) ⊎ (IsAmong p left × (test p ≡ true))
    to h = elim ((among_split x whole left e p).0 h.0) [ inl same ↦ inl (same, h.1) | inr later ↦ inr (later, h.1) ]

    from : ((p ≡ x.0) × (test p ≡ true)) ⊎ (IsAmong p left × (test p ≡ true)) → IsAmong p whole × (test p ≡ true)
    from (inl h) = ((among_split x whole left e p).1 (inl h.0), h.1)
    from (inr h) = ((among_split x whole left e p).1 (inr h.0), h.1)

-- what holds besides may be told in another way
pub besides_same : (IsMore IsAlso : ℕ → Type 0) (old now : List ℕ) → ((p : ℕ) → IsMore p ↔ IsAlso p)
    → HasBesides IsMore old now → HasBesides IsAlso old now
besides_same IsMore IsAlso old now same added p = (
  λ c. elim ((added p).0 c) [ inl d ↦ inl d | inr m ↦ inr ((same p).0 m) ],
  λ h. (added p).1 (elim h [ inl d ↦ inl d | inr a ↦ inr ((same p).1 a) ]),
)

-- what is added, and for which P holds
pub besides_where : (P : ℕ → Type 0) (x : ℕ) (old now : List ℕ) → P x → HasBesides (λ q. q ≡ x) old now
    → HasBesides (λ q. (q ≡ x) × P q) old now
besides_where P x old now holds =
    besides_same (λ q. q ≡ x) (λ q. (q ≡ x) × P q) old now (λ q. (λ e. (e, subst P (sym e) holds), λ h. h.0))

-- two additions, one after the other
pub besides_both : (IsFirst IsLater : ℕ → Type 0) (old mid now : List ℕ) → HasBesides IsFirst old mid
    → HasBesides IsLater mid now → HasBesides (λ p. IsFirst p ⊎ IsLater p) old now
besides_both IsFirst IsLater old mid now first later p = (to, from)
  where
    to : Contains now p → Contains old p ⊎ (IsFirst p ⊎ IsLater p)
    to c = elim ((later p).0 c) [
      | inr l ↦ inr (inr l)
      | inl d ↦ elim ((first p).0 d) [ inl e ↦ inl e | inr f ↦ inr (inl f) ]
    ]

    from : Contains old p ⊎ (IsFirst p ⊎ IsLater p) → Contains now p
    from (inl c) = (later p).1 (inl ((first p).1 (inl c)))
    from (inr (inl f)) = (later p).1 (inl ((first p).1 (inr f)))
    from (inr (inr l)) = (later p).1 (inr l)

-- what follows where a call succeeds
pub on_ok : {T E : Type 0} (P Q : Type 0) → (P → Q) → (r : Result T E) → OnOk r P → OnOk r Q
on_ok P Q f (Ok x) h = f h
on_ok P Q f (Err e) h = tt
