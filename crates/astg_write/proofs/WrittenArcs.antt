-- The arcs in the order of the text: those into places by their transitions, then those out of places by their places.
use Rattle.std.proofs.Common.{◌≡◌, ◌+◌, ◌<◌, ◌==◌, ◌&&◌, ℕ, suc, List, [], ◌∷◌, ◌++◌, Bool, true, false, cond, not, length, map, filter, get_or, refl, sym, ap, subst, ◌∙◌, arith, inl, inr, All, AllPairs, length-append}
use Rattle.std.proofs.lemmas.Bool.{cases_eq, ne_eqb, eq-eqb}
use Rattle.std.proofs.lemmas.List.Elements.{All-head, All-tail, All-filter, All-map}
use Rattle.std.proofs.lemmas.List.Kept.{AllPairs-cons}
use Rattle.std.proofs.lemmas.List.Sorted.{length_permutation}
use Rattle.std.specs.List.Sorted.{IsPermutation}
use Rattle.stg_net.specs.declared.arc.NetArc.{NetArc}
use Rattle.stg_net.specs.Net.{IsArcOf}
use Rattle.stg_net.specs.Ordered.{listed_below}
use Rattle.stg_net.proofs.Buckets.{IsPermutation-buckets, bucket}
use Rattle.astg_write.specs.ComponentText.{comes_from, goes_out_of}
use Rattle.astg_write.proofs.Listed.{listed-add, listed-agree}

pub filter-agree : {X : Type 0} (p q : X → Bool) (xs : List X) → All (λ x. p x ≡ q x) xs → filter p xs ≡ filter q xs
filter-agree p q [] h = refl
filter-agree p q (x ∷ xs) h = (λ j. cond (All-head (λ y. p y ≡ q y) x xs h j) (x ∷ filter-agree p q xs (All-tail (λ y. p y ≡ q y) x xs h) j) (filter-agree p q xs (All-tail (λ y. p y ≡ q y) x xs h) j))

-- the arcs from the transition into places
abbrev pub arcs_given : List NetArc → ℕ → List NetArc
arcs_given arcs t = filter (comes_from t) arcs

-- the arcs out of the place
abbrev pub arcs_taken : List NetArc → ℕ → List NetArc
arcs_taken arcs p = filter (goes_out_of p) arcs

module _ (trans places : ℕ) (arcs : List NetArc) (are : All (IsArcOf places trans) arcs) where
  abbrev key : NetArc → ℕ
  key a = cond a.into a.trans (trans + a.place)

  key-below : All (λ a. key a < trans + places) arcs
  key-below k d b = by_case (get_or arcs k d) (are k d b)
    where
      by_case : (a : NetArc) → IsArcOf places trans a → key a < trans + places
      by_case a h = both a.into
        where
          both : (i : Bool) → cond i a.trans (trans + a.place) < trans + places
          both true = omega (arith, h.trans_there)
          both false = omega (arith, h.place_there)

  given-bucket : (t : ℕ) → t < trans → filter (λ a. key a == t) arcs ≡ arcs_given arcs t
  given-bucket t b = filter-agree (λ a. key a == t) (comes_from t) arcs (λ k d c. by_case (get_or arcs k d))
    where
      by_case : (a : NetArc) → (key a == t) ≡ comes_from t a
      by_case a = both a.into
        where
          both : (i : Bool) → (cond i a.trans (trans + a.place) == t) ≡ (i && (a.trans == t))
          both true = refl
          both false = ne_eqb (trans + a.place) t (λ e. absurd (omega (arith, e, b)))

  taken-bucket : (p : ℕ) → filter (λ a. key a == trans + p) arcs ≡ arcs_taken arcs p
  taken-bucket p = filter-agree (λ a. key a == trans + p) (goes_out_of p) arcs (λ k d c. by_case (get_or arcs k d) (are k d c))
    where
      by_case : (a : NetArc) → IsArcOf places trans a → (key a == trans + p) ≡ goes_out_of p a
      by_case a h = both a.into
        where
          both : (i : Bool) → (cond i a.trans (trans + a.place) == trans + p) ≡ (not i && (a.place == p))
          both true = ne_eqb a.trans (trans + p) (λ e. absurd (omega (arith, e, h.trans_there)))
          both false = elim (cases_eq a.place p) [
            | inl e ↦ eq-eqb (trans + a.place) (trans + p) (ap (λ k. trans + k) e) ∙ sym (eq-eqb a.place p e)
            | inr d ↦ ne_eqb (trans + a.place) (trans + p) (λ e. d (omega (arith, e))) ∙ sym (ne_eqb a.place p d)
          ]

  -- the arcs in the order of the text are the arcs
  pub written-arcs : IsPermutation arcs (listed_below (arcs_given arcs) trans ++ listed_below (arcs_taken arcs) places)
  written-arcs =
      subst (IsPermutation arcs)
      (listed-add (bucket key arcs) trans places
      ∙ (λ j. listed-agree (bucket key arcs) (arcs_given arcs) trans given-bucket j ++ listed-agree (λ k. bucket key arcs (trans + k)) (arcs_taken arcs) places (λ p b. taken-bucket p) j))
      (IsPermutation-buckets key arcs (trans + places) key-below)

  pub written-length : length (listed_below (arcs_given arcs) trans) + length (listed_below (arcs_taken arcs) places) ≡ length arcs
  written-length =
      let a = length-append (listed_below (arcs_given arcs) trans) (listed_below (arcs_taken arcs) places) in
      omega (arith, a, length_permutation arcs (listed_below (arcs_given arcs) trans ++ listed_below (arcs_taken arcs) places) written-arcs)

-- a filter keeps the order of pairs
pub AllPairs-filter : {X : Type 0} (R : X → X → Type 0) (p : X → Bool) (xs : List X) → AllPairs R xs → AllPairs R (filter p xs)
AllPairs-filter R p [] h = h
AllPairs-filter R p (x ∷ xs) h = by_case (p x) (AllPairs-filter R p xs (λ i j d l b. h (suc i) (suc j) d (omega (arith, l)) (omega (arith, b))))
  where
    by_case : (b : Bool) → AllPairs R (filter p xs) → AllPairs R (cond b (x ∷ filter p xs) (filter p xs))
    by_case true rest = AllPairs-cons R x (filter p xs) (All-filter p (R x) xs (λ k d b. h 0 (suc k) d (omega arith) (omega (arith, b)))) rest
    by_case false rest = rest

pub AllPairs-mapped : {X Y : Type 0} (R : X → X → Type 0) (S : Y → Y → Type 0) (f : X → Y) → ((a b : X) → R a b → S (f a) (f b)) → (xs : List X) → AllPairs R xs → AllPairs S (map f xs)
AllPairs-mapped R S f w [] h = λ i j d l b. absurd (omega (arith, b))
AllPairs-mapped R S f w (x ∷ xs) h = AllPairs-cons S (f x) (map f xs)
    (All-map (S (f x)) f xs (λ k d b. w x (get_or xs k d) (h 0 (suc k) d (omega arith) (omega (arith, b)))))
    (AllPairs-mapped R S f w xs (λ i j d l b. h (suc i) (suc j) d (omega (arith, l)) (omega (arith, b))))

-- pairs of elements that pass a test of their own
pub AllPairs-with : {X : Type 0} (P : X → Type 0) (R S : X → X → Type 0) → ((a b : X) → P a → P b → R a b → S a b) → (xs : List X) → All P xs → AllPairs R xs → AllPairs S xs
AllPairs-with P R S w xs all h = λ i j d l b. w (get_or xs i d) (get_or xs j d) (all i d (omega (arith, l, b))) (all j d b) (h i j d l b)
