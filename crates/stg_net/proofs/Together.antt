-- Where what passes a test stands together it is a part of the list, as the arcs of a place are of arcs that ascend.
use Rattle.std.proofs.Common.{◌≡◌, ℕ, zero, suc, ◌+◌, ◌≤◌, ◌==◌, Bool, true, false, leb, List, [], ◌∷◌, length, get_or, take, drop, AllPairs, refl, sym, ap, ◌∙◌, arith, eq-eqb, inl, inr}
use Rattle.std.specs.List.{filter, AllWithin}
use Rattle.std.specs.List.Sorted.{IsNonDecreasingBy, IsPartitionPoint}
use Rattle.std.proofs.Math.Dec.{ltb}
use Rattle.std.proofs.lemmas.Bool.{cases_lt, ne_eqb, leb-true, leb-false, ltb-true, ltb-false}
use Rattle.std.proofs.lemmas.List.{length-drop, get_or-drop}
use Rattle.stg_net.specs.declared.arc.NetArc.{NetArc}
use Rattle.stg_net.specs.Net.{IsBefore}
use Rattle.stg_net.specs.Ordered.{arcs_at}

module _ {X : Type 0} (p : X → Bool) where
  abbrev Pass : X → Type 0
  Pass x = p x ≡ true

  abbrev Fail : X → Type 0
  Fail x = p x ≡ false

  -- where the first i fail, the rest has all that pass
  filter-drop : (xs : List X) (i : ℕ) → i ≤ length xs → AllWithin Fail xs 0 i → filter p xs ≡ filter p (drop i xs)
  filter-drop xs zero inside before = refl
  filter-drop [] (suc i) inside before = refl
  filter-drop (x ∷ xs) (suc i) inside before =
      rw (before 0 x (omega arith) (omega arith)) (filter-drop xs i (omega (arith, inside)) (λ j d low high. before (suc j) d (omega arith) (omega arith)))

  -- where exactly the first k pass, they are all that pass
  filter-take : (xs : List X) (k : ℕ) → k ≤ length xs → AllWithin Pass xs 0 k → AllWithin Fail xs k (length xs) → filter p xs ≡ take k xs
  filter-take [] zero inside here after = refl
  filter-take [] (suc k) inside here after = absurd (omega (arith, inside))
  filter-take (x ∷ xs) zero inside here after =
      rw (after 0 x (omega arith) (omega arith)) (filter-take xs 0 (omega arith) (λ j d low high. absurd (omega arith)) (λ j d low high. after (suc j) d (omega arith) (omega arith)))
  filter-take (x ∷ xs) (suc k) inside here after =
      let rest = filter-take xs k (omega (arith, inside)) (λ j d low high. here (suc j) d (omega arith) (omega arith)) (λ j d low high. after (suc j) d (omega arith) (omega arith)) in
      rw (here 0 x (omega arith) (omega arith)) (ap (λ ys. x ∷ ys) rest)

-- the places of arcs that ascend don't decrease
pub places_rise : (arcs : List NetArc) → AllPairs IsBefore arcs → IsNonDecreasingBy (λ (a : NetArc). a.place) arcs
places_rise arcs ascend i j d up below = elim (cases_lt i j) [
  | inl lt ↦ elim (ascend i j d lt below) [ inl l ↦ omega arith | inr s ↦ omega (arith, s.0) ]
  | inr ge ↦ let same : i ≡ j = omega arith in omega (arith, ap (λ k. (get_or arcs k d).place) same)
]

-- the arcs of the place stand behind those of the lesser places, and before those of the greater ones
pub arcs_together : (arcs rest : List NetArc) (p i k : ℕ) → i ≤ length arcs → rest ≡ drop i arcs → IsPartitionPoint (λ (a : NetArc). ltb a.place p ≡ true) (λ (a : NetArc). ltb a.place p ≡ false) arcs i
    → k ≤ length rest → IsPartitionPoint (λ (a : NetArc). leb a.place p ≡ true) (λ (a : NetArc). leb a.place p ≡ false) rest k → take k rest ≡ arcs_at arcs p
arcs_together arcs rest p i k inside is first within last =
    sym (filter-drop test arcs i inside (λ j d low high. ne_eqb (get_or arcs j d).place p (λ e. absurd (omega (arith, e, ltb-true (get_or arcs j d).place p (first.0 j d low high)))))
    ∙ ap (filter test) (sym is)
    ∙ filter-take test rest k within
    (λ j d low high.
    let least = ltb-false (get_or arcs (i + j) d).place p (first.1 (i + j) d (omega arith) (omega (arith, length-drop i arcs, ap length is))) in
    let most = leb-true (get_or rest j d).place p (last.0 j d low high) in
    eq-eqb (get_or rest j d).place p (omega (arith, least, most, ap (λ (xs : List NetArc). (get_or xs j d).place) is, ap (λ (a : NetArc). a.place) (get_or-drop i arcs j d))))
    (λ j d low high. ne_eqb (get_or rest j d).place p (λ e. absurd (omega (arith, e, leb-false (get_or rest j d).place p (last.1 j d low high))))))
  where
    test : NetArc → Bool
    test a = a.place == p
