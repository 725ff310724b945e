-- What a heap gives first is the entry that comes first.
use Rattle.std.proofs.Common.{◌≡◌, ◌<◌, ◌≤◌, ◌⊎◌, ◌++◌, ◌∷◌, [], ℕ, false, List, All, eq-eqb, sym, ◌∙◌, subst, refl, inl, inr, arith}
use Rattle.std.specs.BinaryHeap.{IsUpperBound}
use Rattle.std.specs.List.Sorted.{IsPermutation}
use Rattle.std.specs.Ordering.{nat_cmp, ordering_then, is_lt}
use Rattle.std.specs.declared.cmp.Reverse.{Reverse}
use Rattle.std.proofs.lemmas.Bool.{cases_order, cases_lt, lt-ltb, le-ltb, false≢true}
use Rattle.std.proofs.lemmas.List.{map-append}
use Rattle.std.proofs.lemmas.List.Elements.{All-nil, All-cons}
use Rattle.std.proofs.lemmas.List.Sorted.{IsPermutation-map}
use Rattle.stg_contract.specs.inner.Queues.{ComesFirst, stored_entries, cmp_stored}

-- of two pairs, where the first isn't before the second, the second is before it or with it
not_before : (a b c d : ℕ) → is_lt (ordering_then (nat_cmp a b) (nat_cmp c d)) ≡ false
    → (b < a) ⊎ ((b ≡ a) × (d ≤ c))
not_before a b c d e = elim (cases_order a b) [
  | inl same ↦ elim (cases_lt c d) [
    | inr h ↦ inr (sym same, h)
    | inl l ↦ absurd (false≢true (sym e ∙ rw (le-ltb a b (omega (arith, same)), eq-eqb a b same, lt-ltb c d l) refl))
  ]
  | inr (inl l) ↦ absurd (false≢true (sym e ∙ rw (lt-ltb a b l) refl))
  | inr (inr l) ↦ inl l
]

-- what is less than nothing in the heap comes first
pub first_of_heap : (x : Reverse (ℕ × ℕ)) (xs : List (Reverse (ℕ × ℕ))) → IsUpperBound cmp_stored x xs
    → All (ComesFirst x.0) (stored_entries xs)
first_of_heap x [] h = All-nil (ComesFirst x.0)
first_of_heap x (y ∷ ys) h =
    All-cons (ComesFirst x.0) y.0 (stored_entries ys) (not_before y.0.0 x.0.0 y.0.1 x.0.1 h.0) (first_of_heap x ys h.1)

-- the same heap has the same entries
pub stored-permutation : (xs ys : List (Reverse (ℕ × ℕ))) → IsPermutation xs ys
    → IsPermutation (stored_entries xs) (stored_entries ys)
stored-permutation xs ys p = IsPermutation-map (λ (x : Reverse (ℕ × ℕ)). x.0) xs ys p

-- two heaps that are joined have the entries of both
pub stored-joined : (xs ys zs : List (Reverse (ℕ × ℕ))) → IsPermutation (xs ++ ys) zs
    → IsPermutation (stored_entries xs ++ stored_entries ys) (stored_entries zs)
stored-joined xs ys zs p =
    subst (λ es. IsPermutation es (stored_entries zs)) (map-append (λ (x : Reverse (ℕ × ℕ)). x.0) xs ys) (stored-permutation (xs ++ ys) zs p)
