-- Sums over the places of a graph, and over those of the graph in which a transition is contracted.
use Rattle.std.proofs.Common.{◌≡◌, ◌<◌, ◌≤◌, ◌+◌, ◌*◌, ◌||◌, ◌&&◌, not, ℕ, zero, suc, Bool, true, false, cond, List, [], ◌∷◌, length, map, filter, flat_map, get_or, sum_by, is_some, Option, Some, None, ltb, eqb, refl, sym, ap, ◌∙◌, inl, inr, arith, zero-add}
use Rattle.std.specs.List.{range_with_len}
use Rattle.std.proofs.lemmas.Bool.{cases_lt, cases_Bool, ltb-true, lt-ltb, le-ltb, false≢true}
use Rattle.std.proofs.lemmas.List.{length-set}
use Rattle.std.proofs.lemmas.List.FromFn.{get_or-map-range_with_len}
use Rattle.std.proofs.lemmas.List.Sums.{sum_by-cons, sum_by-append}
use Rattle.stg_net.specs.Graph.{Graph, Place, IsPlace, place_at, place_numbers, taken_by, given_by, takes, gives}
use Rattle.stg_net.specs.Contraction.{places_before, places_after, pairs_round, each_other, pair_place, is_touched, remaining_place, contracted}
use Rattle.stg_edit.specs.Counted.{count_arcs_at, count_arcs}
use Rattle.stg_edit.specs.Replacing.{arcs_of_pair, new_places, new_arcs}
use Rattle.stg_edit.specs.Walks.{taken_places, given_places}
use Rattle.stg_arena.specs.WalkItems.{weighted, weighted_from}
use Rattle.stg_arena.proofs.Incidence.{weighted_same}
use Rattle.stg_contract.specs.Verdicts.{count_places}
use Rattle.stg_contract.specs.inner.Tests.{is_kept}
use Rattle.stg_contract.specs.inner.Counts.{arcs_at_each, arcs_round, arcs_kept}
use Rattle.stg_edit.proofs.LiveEnds.{taken_is_place, given_is_place}

sum_map : {X Y : Type 0} (h : Y → ℕ) (f : X → Y) (xs : List X) → sum_by h (map f xs) ≡ sum_by (λ x. h (f x)) xs
sum_map h f [] = refl
sum_map h f (x ∷ xs) = omega (arith, sum_by-cons h (f x) (map f xs), sum_by-cons (λ x. h (f x)) x xs, sum_map h f xs)

sum_flat : {X Y : Type 0} (h : Y → ℕ) (k : X → List Y) (xs : List X)
    → sum_by h (flat_map k xs) ≡ sum_by (λ x. sum_by h (k x)) xs
sum_flat h k [] = refl
sum_flat h k (x ∷ xs) = omega (arith, sum_by-append h (k x) (flat_map k xs), sum_by-cons (λ x. sum_by h (k x)) x xs, sum_flat h k xs)

sum_same : {X : Type 0} (f h : X → ℕ) (xs : List X) → ((x : X) → f x ≡ h x) → sum_by f xs ≡ sum_by h xs
sum_same f h xs same = λ i. sum_by (λ x. same x i) xs

-- a sum over numbers is one over the elements that have them
sum_numbers : {X : Type 0} (F : ℕ → ℕ) (f : X → ℕ) (d : X) (xs : List X) (a : ℕ)
    → ((i : ℕ) → i < length xs → F (a + i) ≡ f (get_or xs i d))
    → sum_by F (range_with_len a (length xs)) ≡ sum_by f xs
sum_numbers F f d [] a h = refl
sum_numbers F f d (x ∷ xs) a h = omega (
  arith,
  sum_by-cons F a (range_with_len (a + 1) (length xs)),
  sum_by-cons f x xs,
  sum_numbers F f d xs (a + 1) (λ i l. ap F (let e : a + 1 + i ≡ a + suc i = omega arith in e) ∙ h (suc i) (omega (arith, l))),
  ap F (let e : a + 0 ≡ a = omega arith in e),
  h 0 (omega arith),
)

-- numbers that don't pass may be summed up, where they count nothing
sum_passing : (F : ℕ → ℕ) (q : ℕ → Bool) (xs : List ℕ) → ((p : ℕ) → q p ≡ false → F p ≡ 0)
    → sum_by F (filter q xs) ≡ sum_by F xs
sum_passing F q [] none = refl
sum_passing F q (x ∷ xs) none = elim (cases_Bool (q x)) [
  | inl h ↦ rw h (omega (arith, sum_by-cons F x (filter q xs), sum_by-cons F x xs, sum_passing F q xs none))
  | inr h ↦ rw h (omega (arith, sum_by-cons F x xs, sum_passing F q xs none, none x h))
]

len_step : {X : Type 0} (z : Bool) (x : X) (xs : List X) → length (cond z (x ∷ xs) xs) ≡ cond z 1 0 + length xs
len_step true x xs = omega arith
len_step false x xs = omega arith

sum_step : (c : ℕ → ℕ) (z : Bool) (x : ℕ) (xs : List ℕ)
    → sum_by c (cond z (x ∷ xs) xs) ≡ cond z (c x) 0 + sum_by c xs
sum_step c true x xs = sum_by-cons c x xs
sum_step c false x xs = omega arith

count_passing : (q : ℕ → Bool) (xs : List ℕ) → length (filter q xs) ≡ sum_by (λ p. cond (q p) 1 0) xs
count_passing q [] = refl
count_passing q (x ∷ xs) =
    let e : length (filter q (x ∷ xs)) ≡ cond (q x) 1 0 + length (filter q xs) = len_step (q x) x (filter q xs) in
    omega (arith, e, sum_by-cons (λ p. cond (q p) 1 0) x xs, count_passing q xs)

three : (a b : Bool) (c : ℕ) → (a ≡ true → b ≡ false) → cond (a || b) 0 c + cond a c 0 + cond b c 0 ≡ c
three true true c apart = absurd (false≢true (sym (apart refl)))
three true false c apart = omega arith
three false true c apart = omega arith
three false false c apart = omega arith

-- what counts at the numbers that neither test passes, at those of the first and at those of the second
split : (c : ℕ → ℕ) (a b : ℕ → Bool) (xs : List ℕ) → ((p : ℕ) → a p ≡ true → b p ≡ false)
    → sum_by (λ p. cond (a p || b p) 0 (c p)) xs + sum_by c (filter a xs) + sum_by c (filter b xs) ≡ sum_by c xs
split c a b [] apart = refl
split c a b (x ∷ xs) apart =
    let e : sum_by c (filter a (x ∷ xs)) ≡ cond (a x) (c x) 0 + sum_by c (filter a xs) = sum_step c (a x) x (filter a xs) in
    let f : sum_by c (filter b (x ∷ xs)) ≡ cond (b x) (c x) 0 + sum_by c (filter b xs) = sum_step c (b x) x (filter b xs) in
    omega (arith, e, f, sum_by-cons (λ p. cond (a p || b p) 0 (c p)) x xs, sum_by-cons c x xs, split c a b xs apart, three (a x) (b x) (c x) (apart x))

sum_weighted : (c w : ℕ → ℕ) (m a : ℕ)
    → sum_by (λ (x : ℕ × ℕ). c x.0) (weighted_from w a m) ≡ sum_by c (filter (λ p. ltb 0 (w p)) (range_with_len a m))
sum_weighted c w zero a = refl
sum_weighted c w (suc m) a = elim (cases_Bool (ltb 0 (w a))) [
  | inl h ↦ rw h (omega (arith, sum_by-cons (λ (x : ℕ × ℕ). c x.0) (a, w a) (weighted_from w (a + 1) m), sum_by-cons c a (filter (λ p. ltb 0 (w p)) (range_with_len (a + 1) m)), sum_weighted c w m (a + 1)))
  | inr h ↦ rw h (sum_weighted c w m (a + 1))
]

sum_ones : (c w : ℕ → ℕ) (m a : ℕ) → ((k : ℕ) → 0 < w k → c k ≡ 1)
    → sum_by (λ (x : ℕ × ℕ). c x.0) (weighted_from w a m) ≡ length (weighted_from w a m)
sum_ones c w zero a one = refl
sum_ones c w (suc m) a one = elim (cases_lt 0 (w a)) [
  | inl h ↦ rw (lt-ltb 0 (w a) h) (omega (arith, sum_by-cons (λ (x : ℕ × ℕ). c x.0) (a, w a) (weighted_from w (a + 1) m), one a h, sum_ones c w m (a + 1) one))
  | inr h ↦ rw (le-ltb 0 (w a) h) (sum_ones c w m (a + 1) one)
]

sum_const : {X : Type 0} (k : ℕ) (xs : List X) → sum_by (λ (x : X). k) xs ≡ length xs * k
sum_const k [] = omega arith
sum_const k (x ∷ xs) = sum_by-cons (λ x. k) x xs ∙ ap (λ m. k + m) (sum_const k xs) ∙ (let e : k + length xs * k ≡ suc (length xs) * k = omega arith in e)

-- a sum over the pairs round t is one over the places before it and those after it
sum_pairs : (g : Graph) (t : ℕ) (F : ℕ × ℕ → ℕ)
    → sum_by F (pairs_round g t) ≡ sum_by (λ (x : ℕ × ℕ). sum_by (λ (y : ℕ × ℕ). F (x.0, y.0)) (given_places g t)) (taken_places g t)
sum_pairs g t F =
    sum_flat F (λ p. map (λ q. (p, q)) (places_after g t)) (places_before g t)
    ∙ sum_same (λ p. sum_by F (map (λ q. (p, q)) (places_after g t))) (λ p. sum_by (λ (y : ℕ × ℕ). F (p, y.0)) (given_places g t)) (places_before g t)
    (λ p. sum_map F (λ q. (p, q)) (places_after g t) ∙ sym (sum_weighted (λ q. F (p, q)) (gives g t) (length g.places) 0))
    ∙ sym (sum_weighted (λ p. sum_by (λ (y : ℕ × ℕ). F (p, y.0)) (given_places g t)) (takes g t) (length g.places) 0)

-- how much the places of h count
abbrev sum_places : (Option Place → ℕ) → Graph → ℕ
sum_places f h = sum_by (λ p. f (place_at h p)) (place_numbers h)

-- how much the places of g count that t doesn't touch
abbrev sum_untouched : (Option Place → ℕ) → Graph → ℕ → ℕ
sum_untouched f g t = sum_by (λ p. cond (is_touched g t p) 0 (f (place_at g p))) (place_numbers g)

-- the places of the contracted graph count what the untouched ones and the pairs do
sum_contracted : (f : Option Place → ℕ) (g : Graph) (t : ℕ) → f None ≡ 0
    → sum_places f (contracted g t) ≡ sum_untouched f g t + sum_by (λ x. f (pair_place g t x)) (pairs_round g t)
sum_contracted f g t empty = omega (
  arith,
  sum_numbers (λ p. f (place_at (contracted g t) p)) f None (contracted g t).places 0 (λ i l. ap (λ k. f (place_at (contracted g t) k)) (zero-add i)),
  sum_by-append f (map (remaining_place g t) (place_numbers g)) (map (pair_place g t) (pairs_round g t)),
  sum_map f (remaining_place g t) (place_numbers g),
  sum_same (λ p. f (remaining_place g t p)) (λ p. cond (is_touched g t p) 0 (f (place_at g p))) (place_numbers g) (λ p. left p (is_touched g t p) refl),
  sum_map f (pair_place g t) (pairs_round g t),
)
  where
    left : (p : ℕ) (z : Bool) → is_touched g t p ≡ z
        → f (cond (is_touched g t p) None (place_at g p)) ≡ cond (is_touched g t p) 0 (f (place_at g p))
    left p true e = rw e empty
    left p false e = rw e refl

-- the places of g count what the untouched ones do, those before t and those after it
sum_split : (f : Option Place → ℕ) (g : Graph) (t : ℕ) → ((p : ℕ) → 0 < takes g t p → gives g t p ≡ 0)
    → sum_untouched f g t + sum_by (λ (x : ℕ × ℕ). f (place_at g x.0)) (taken_places g t) + sum_by (λ (x : ℕ × ℕ). f (place_at g x.0)) (given_places g t) ≡ sum_places f g
sum_split f g t pure =
    let c : ℕ → ℕ = λ p. f (place_at g p) in
    omega (
      arith,
      split c (λ p. ltb 0 (takes g t p)) (λ p. ltb 0 (gives g t p)) (place_numbers g) (λ p h. le-ltb 0 (gives g t p) (omega (arith, pure p (ltb-true 0 (takes g t p) h)))),
      sum_weighted c (takes g t) (length g.places) 0,
      sum_weighted c (gives g t) (length g.places) 0,
    )

abbrev live_count : Option Place → ℕ
live_count o = cond (is_some o) 1 0

abbrev arc_count : ℕ → Option Place → ℕ
arc_count n o = length (weighted n (λ t. taken_by t o)) + length (weighted n (λ t. given_by t o))

places_sum : (h : Graph) → count_places h ≡ sum_places live_count h
places_sum h = count_passing (λ p. is_some (place_at h p)) (place_numbers h)

none_weighted : (n a : ℕ) → length (weighted_from (λ t. 0) a n) ≡ 0
none_weighted zero a = refl
none_weighted (suc n) a = none_weighted n (a + 1)

arcs_sum : (h : Graph) → count_arcs h ≡ sum_places (arc_count (length h.trans)) h
arcs_sum h = sum_passing (count_arcs_at h) (λ p. is_some (place_at h p)) (place_numbers h) (λ p. dead (place_at h p))
  where
    dead : (o : Option Place) → is_some o ≡ false → arc_count (length h.trans) o ≡ 0
    dead None e = omega (arith, none_weighted (length h.trans) 0)
    dead (Some x) e = absurd (false≢true (sym e))

-- how many places a contraction makes
pub new_places-product : (g : Graph) (t : ℕ)
    → new_places g t ≡ length (taken_places g t) * length (given_places g t)
new_places-product g t =
    (let e : length (pairs_round g t) ≡ sum_by (λ x. 1) (pairs_round g t) = sym (sum_const 1 (pairs_round g t) ∙ (let z : length (pairs_round g t) * 1 ≡ length (pairs_round g t) = omega arith in z)) in e)
    ∙ sum_pairs g t (λ x. 1)
    ∙ sum_same (λ (x : ℕ × ℕ). sum_by (λ (y : ℕ × ℕ). 1) (given_places g t)) (λ x. length (given_places g t)) (taken_places g t) (λ x. sum_const 1 (given_places g t) ∙ (let z : length (given_places g t) * 1 ≡ length (given_places g t) = omega arith in z))
    ∙ sum_const (length (given_places g t)) (taken_places g t)

-- the live places are the untouched ones, those before t and those after it
places_split : (g : Graph) (t : ℕ) → ((p : ℕ) → 0 < takes g t p → gives g t p ≡ 0)
    → sum_untouched live_count g t + length (taken_places g t) + length (given_places g t) ≡ count_places g
places_split g t pure =
    let live : (p : ℕ) → IsPlace g p → live_count (place_at g p) ≡ 1 = λ p l. ap {B = ℕ} (λ z. cond z 1 0) l in
    omega (
      arith,
      places_sum g,
      sum_split live_count g t pure,
      sum_ones (λ p. live_count (place_at g p)) (takes g t) (length g.places) 0 (λ k h. live k (taken_is_place g t k h)),
      sum_ones (λ p. live_count (place_at g p)) (gives g t) (length g.places) 0 (λ k h. live k (given_is_place g t k h)),
    )

-- how many places there are once t is contracted
pub count_places-contracted : (g : Graph) (t : ℕ) → ((p : ℕ) → 0 < takes g t p → gives g t p ≡ 0)
    → count_places (contracted g t) + length (taken_places g t) + length (given_places g t) ≡ count_places g + new_places g t
count_places-contracted g t pure = omega (arith, places_sum (contracted g t), sum_contracted live_count g t refl, sum_const 1 (pairs_round g t), places_split g t pure)

-- the places round t are live
pub touched_places : (g : Graph) (t : ℕ) → ((p : ℕ) → 0 < takes g t p → gives g t p ≡ 0)
    → length (taken_places g t) + length (given_places g t) ≤ count_places g
touched_places g t pure = omega (arith, places_split g t pure)

-- the arcs that a contraction makes, as they are counted
pub new_arcs-round : (g : Graph) (t : ℕ) → new_arcs g t ≡ arcs_round g t
new_arcs-round g t = sum_pairs g t (arcs_of_pair g t)

arc_count-pair : (g : Graph) (t : ℕ) (x : ℕ × ℕ) → arc_count (length g.trans) (pair_place g t x) ≡ arcs_of_pair g t x
arc_count-pair g t (p, q) = λ i. length (one (λ u. takes g u p + takes g u q) i) + length (one (λ u. gives g u p + gives g u q) i)
  where
    one : (w : ℕ → ℕ)
        → weighted (length g.trans) (λ u. get_or (each_other g t w) u 0) ≡ weighted (length g.trans) (λ u. cond (eqb u t) 0 (w u))
    one w = weighted_same (length g.trans) (length g.trans) (λ u. get_or (each_other g t w) u 0) (λ u. cond (eqb u t) 0 (w u)) refl
        (λ u low. get_or-map-range_with_len (λ u. cond (eqb u t) 0 (w u)) 0 (length g.trans) u u 0 low (zero-add u))

-- what counts at the numbers that pass
sum_filter : (c : ℕ → ℕ) (q : ℕ → Bool) (xs : List ℕ)
    → sum_by c (filter q xs) ≡ sum_by (λ p. cond (q p) (c p) 0) xs
sum_filter c q [] = refl
sum_filter c q (x ∷ xs) =
    let e : sum_by c (filter q (x ∷ xs)) ≡ cond (q x) (c x) 0 + sum_by c (filter q xs) = sum_step c (q x) x (filter q xs) in
    omega (arith, e, sum_by-cons (λ p. cond (q p) (c p) 0) x xs, sum_filter c q xs)

-- the arcs at the places that are kept
kept_sum : (g : Graph) (t : ℕ) → arcs_kept g t ≡ sum_untouched (arc_count (length g.trans)) g t
kept_sum g t =
    sum_filter (count_arcs_at g) (is_kept g t) (place_numbers g)
    ∙ sum_same (λ p. cond (is_kept g t p) (count_arcs_at g p) 0) (λ p. cond (is_touched g t p) 0 (count_arcs_at g p)) (place_numbers g) (λ p. each p (is_touched g t p) (is_some (place_at g p)) refl)
  where
    none : (o : Option Place) → is_some o ≡ false → arc_count (length g.trans) o ≡ 0
    none None e = omega (arith, none_weighted (length g.trans) 0)
    none (Some x) e = absurd (false≢true (sym e))

    each : (p : ℕ) (touched live : Bool) → is_some (place_at g p) ≡ live
        → cond (live && not touched) (count_arcs_at g p) 0 ≡ cond touched 0 (count_arcs_at g p)
    each p true true e = refl
    each p true false e = refl
    each p false true e = refl
    each p false false e = sym (none (place_at g p) e)

-- how many arcs there are once t is contracted
pub count_arcs-contracted : (g : Graph) (t : ℕ) → count_arcs (contracted g t) ≡ arcs_kept g t + new_arcs g t
count_arcs-contracted g t =
    let same : sum_by (λ x. arc_count (length g.trans) (pair_place g t x)) (pairs_round g t) ≡ new_arcs g t = sum_same (λ x. arc_count (length g.trans) (pair_place g t x)) (arcs_of_pair g t) (pairs_round g t) (arc_count-pair g t) in
    let long : length (contracted g t).trans ≡ length g.trans = length-set g.trans t None in
    omega (
      arith,
      arcs_sum (contracted g t),
      ap (λ n. sum_places (arc_count n) (contracted g t)) long,
      sum_contracted (arc_count (length g.trans)) g t (omega (arith, none_weighted (length g.trans) 0)),
      kept_sum g t,
      same,
    )

-- the arcs are those at the places that are kept, at those before t and at those after it
pub arcs_split : (g : Graph) (t : ℕ) → ((p : ℕ) → 0 < takes g t p → gives g t p ≡ 0)
    → arcs_kept g t + arcs_at_each g (taken_places g t) + arcs_at_each g (given_places g t) ≡ count_arcs g
arcs_split g t pure = omega (arith, arcs_sum g, sum_split (arc_count (length g.trans)) g t pure, kept_sum g t)
