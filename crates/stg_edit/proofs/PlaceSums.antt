-- Sums over the places of a graph, and what an edit changes of them.
use Rattle.std.proofs.Common.{◌≡◌, ◌≢◌, ◌<◌, ◌≤◌, ◌+◌, ◌-◌, ℕ, zero, suc, Bool, true, false, cond, min, List, [], ◌∷◌, length, map, filter, get_or, set, sum_by, is_some, Option, Some, None, ltb, refl, sym, ap, ◌∙◌, inl, inr, arith, zero-add}
use Rattle.std.specs.List.{range_with_len}
use Rattle.std.proofs.lemmas.Bool.{cases_lt, cases_eq, cases_Bool, ltb-true, false≢true}
use Rattle.std.proofs.lemmas.List.{length-map, length-set, get_or_past, get_or-set_same, get_or-set_other, get_or-append_right, get_or-map}
use Rattle.std.proofs.lemmas.List.FromFn.{length-range_with_len}
use Rattle.std.proofs.lemmas.List.Sums.{sum_by-cons, sum_by-append, sum_by-set}
use Rattle.stg_net.specs.Graph.{Graph, Place, IsPlace, IsTrans, place_at, place_numbers, taken_by, given_by, takes, gives}
use Rattle.stg_net.specs.Contraction.{pairs_round, pair_place, is_touched, remaining_place, contracted, without_place, without_arcs_of, without_trans}
use Rattle.stg_arena.specs.WalkItems.{weighted}
use Rattle.stg_arena.proofs.Appends.{weighted_more}
use Rattle.stg_edit.specs.Counted.{live_places, count_arcs_at, count_arcs}
use Rattle.stg_edit.specs.Replacing.{new_places}
use Rattle.stg_edit.specs.Walks.{taken_places, given_places}
use Rattle.stg_edit.proofs.Counted.{range_more}
use Rattle.stg_edit.proofs.LiveEnds.{taken_is_place, given_is_place}

sum_map : {X Y : Type 0} (h : Y → ℕ) (f : X → Y) (xs : List X) → sum_by h (map f xs) ≡ sum_by (λ x. h (f x)) xs
sum_map h f [] = refl
sum_map h f (x ∷ xs) = omega (arith, sum_by-cons h (f x) (map f xs), sum_by-cons (λ x. h (f x)) x xs, sum_map h f xs)

sum_same : {X : Type 0} (f h : X → ℕ) (xs : List X) → ((x : X) → f x ≡ h x) → sum_by f xs ≡ sum_by h xs
sum_same f h xs same = λ i. sum_by (λ x. same x i) xs

-- three sums whose terms make those of a fourth
sum_three : {X : Type 0} (f g h k : X → ℕ) (xs : List X) → ((x : X) → f x + (g x + h x) ≡ k x) → sum_by f xs + (sum_by g xs + sum_by h xs) ≡ sum_by k xs
sum_three f g h k [] same = refl
sum_three f g h k (x ∷ xs) same = omega (arith, sum_by-cons f x xs, sum_by-cons g x xs, sum_by-cons h x xs, sum_by-cons k x xs, same x, sum_three f g h k xs same)

-- a sum over numbers is one over the elements that have them
sum_numbers : {X : Type 0} (F : ℕ → ℕ) (f : X → ℕ) (d : X) (xs : List X) (a : ℕ) → ((i : ℕ) → i < length xs → F (a + i) ≡ f (get_or xs i d)) → sum_by F (range_with_len a (length xs)) ≡ sum_by f xs
sum_numbers F f d [] a h = refl
sum_numbers F f d (x ∷ xs) a h = omega (
  arith,
  sum_by-cons F a (range_with_len (a + 1) (length xs)),
  sum_by-cons f x xs,
  sum_numbers F f d xs (a + 1) (λ i l. ap F (let e : a + 1 + i ≡ a + suc i = omega arith in e) ∙ h (suc i) (omega (arith, l))),
  ap F (let e : a + 0 ≡ a = omega arith in e),
  h 0 (omega arith),
)

-- two sums over numbers whose terms agree
pub sum_range : (F G : ℕ → ℕ) (n a : ℕ) → ((p : ℕ) → a ≤ p → p < a + n → F p ≡ G p) → sum_by F (range_with_len a n) ≡ sum_by G (range_with_len a n)
sum_range F G zero a same = refl
sum_range F G (suc n) a same = omega (
  arith,
  sum_by-cons F a (range_with_len (a + 1) n),
  sum_by-cons G a (range_with_len (a + 1) n),
  same a (omega arith) (omega arith),
  sum_range F G n (a + 1) (λ p l h. same p (omega (arith, l)) (omega (arith, h))),
)

sum_step : (c : ℕ → ℕ) (z : Bool) (x : ℕ) (xs : List ℕ) → sum_by c (cond z (x ∷ xs) xs) ≡ cond z (c x) 0 + sum_by c xs
sum_step c true x xs = sum_by-cons c x xs
sum_step c false x xs = omega arith

-- a sum over what passes is one over all, where the others count nothing
pub sum_filter : (c : ℕ → ℕ) (q : ℕ → Bool) (xs : List ℕ) → sum_by c (filter q xs) ≡ sum_by (λ p. cond (q p) (c p) 0) xs
sum_filter c q [] = refl
sum_filter c q (x ∷ xs) =
    let e : sum_by c (filter q (x ∷ xs)) ≡ cond (q x) (c x) 0 + sum_by c (filter q xs) = sum_step c (q x) x (filter q xs) in
    omega (arith, e, sum_by-cons (λ p. cond (q p) (c p) 0) x xs, sum_filter c q xs)

pub count_filter : (q : ℕ → Bool) (xs : List ℕ) → length (filter q xs) ≡ sum_by (λ p. cond (q p) 1 0) xs
count_filter q [] = refl
count_filter q (x ∷ xs) =
    let e : length (filter q (x ∷ xs)) ≡ cond (q x) 1 0 + length (filter q xs) = one (q x) (filter q xs) in
    omega (arith, e, sum_by-cons (λ p. cond (q p) 1 0) x xs, count_filter q xs)
  where
    one : (z : Bool) (ys : List ℕ) → length (cond z (x ∷ ys) ys) ≡ cond z 1 0 + length ys
    one true ys = omega arith
    one false ys = omega arith

-- what passes and what doesn't make the whole
sum_both : (c : ℕ → ℕ) (q : ℕ → Bool) (xs : List ℕ) → sum_by (λ p. cond (q p) 0 (c p)) xs + sum_by c (filter q xs) ≡ sum_by c xs
sum_both c q xs = omega (
  arith,
  sum_filter c q xs,
  sum_three (λ p. cond (q p) 0 (c p)) (λ p. cond (q p) (c p) 0) (λ p. 0) c xs (λ p. both (q p) (c p)),
  sum_none xs,
)
  where
    both : (z : Bool) (k : ℕ) → cond z 0 k + (cond z k 0 + 0) ≡ k
    both true k = omega arith
    both false k = omega arith

    sum_none : (xs : List ℕ) → sum_by (λ p. 0) xs ≡ 0
    sum_none [] = refl
    sum_none (x ∷ xs) = omega (arith, sum_by-cons (λ p. 0) x xs, sum_none xs)

-- how much the places of a graph count
abbrev sum_places : (Option Place → ℕ) → Graph → ℕ
sum_places f g = sum_by (λ p. f (place_at g p)) (place_numbers g)

sum_listed : (f : Option Place → ℕ) (g : Graph) → sum_places f g ≡ sum_by f g.places
sum_listed f g = sum_numbers (λ p. f (place_at g p)) f None g.places 0 (λ i l. ap (λ k. f (place_at g k)) (zero-add i))

abbrev live_count : Option Place → ℕ
live_count o = cond (is_some o) 1 0

abbrev arc_count : ℕ → Option Place → ℕ
arc_count n o = length (weighted n (λ t. taken_by t o)) + length (weighted n (λ t. given_by t o))

-- a live place has this number
inside : (g : Graph) (p : ℕ) → IsPlace g p → p < length g.places
inside g p live = elim (cases_lt p (length g.places)) [ inl low ↦ low | inr past ↦ absurd (false≢true (sym (ap is_some (get_or_past g.places p None past)) ∙ live)) ]

places_sum : (g : Graph) → length (live_places g) ≡ sum_places live_count g
places_sum g = count_filter (λ p. is_some (place_at g p)) (place_numbers g)

none_weighted : (n : ℕ) → length (weighted n (λ t. 0)) ≡ 0
none_weighted zero = refl
none_weighted (suc n) = omega (arith, ap (λ k. length (weighted k (λ t. 0))) (let e : suc n ≡ n + 1 = omega arith in e), weighted_more n (λ t. 0), none_weighted n)

none_counts : (n : ℕ) → arc_count n None ≡ 0
none_counts n = omega (arith, none_weighted n)

-- the arcs may be counted at all places, live or not
pub arcs_sum : (g : Graph) → count_arcs g ≡ sum_by (count_arcs_at g) (place_numbers g)
arcs_sum g = sum_filter (count_arcs_at g) (λ p. is_some (place_at g p)) (place_numbers g) ∙ sum_same (λ p. cond (is_some (place_at g p)) (count_arcs_at g p) 0) (count_arcs_at g) (place_numbers g) (λ p. each (place_at g p))
  where
    each : (o : Option Place) → cond (is_some o) (arc_count (length g.trans) o) 0 ≡ arc_count (length g.trans) o
    each None = sym (none_counts (length g.trans))
    each (Some x) = refl

-- without a place
sum_without_place : (f : Option Place → ℕ) (g : Graph) (p : ℕ) → f None ≡ 0 → IsPlace g p → sum_places f (without_place g p) + f (place_at g p) ≡ sum_places f g
sum_without_place f g p none live = omega (arith, sum_listed f g, sum_listed f (without_place g p), sum_by-set f g.places p None None (inside g p live), none)

-- how many places and arcs are left without a live place
pub size_without_place : (g : Graph) (p : ℕ) → IsPlace g p → (length (live_places (without_place g p)) + 1 ≡ length (live_places g)) × (count_arcs (without_place g p) + count_arcs_at g p ≡ count_arcs g)
size_without_place g p live = (
  omega (arith, places_sum g, places_sum (without_place g p), sum_without_place live_count g p refl live, ap {B = ℕ} (λ z. cond z 1 0) live),
  omega (arith, arcs_sum g, arcs_sum (without_place g p), sum_without_place (arc_count (length g.trans)) g p (none_counts (length g.trans)) live),
)

-- weights that agree but at t, where the one has none
module _ (v w : ℕ → ℕ) (t : ℕ) (none : v t ≡ 0) (same : (u : ℕ) → u ≢ t → v u ≡ w u) where
  as_many_before : (n : ℕ) → n ≤ t → length (weighted n v) ≡ length (weighted n w)
  as_many_before zero low = refl
  as_many_before (suc n) low =
      let e : suc n ≡ n + 1 = omega arith in
      omega (
        arith,
        as_many_before n (omega arith),
        ap (λ k. length (weighted k v)) e,
        weighted_more n v,
        ap (λ k. length (weighted k w)) e,
        weighted_more n w,
        same n (λ here. absurd (omega arith)),
      )

  one_less : (n : ℕ) → t < n → length (weighted n v) + min 1 (w t) ≡ length (weighted n w)
  one_less zero low = absurd (omega arith)
  one_less (suc n) low =
      let e : suc n ≡ n + 1 = omega arith in
      let long = ap (λ k. length (weighted k v)) e ∙ weighted_more n v in
      let long' = ap (λ k. length (weighted k w)) e ∙ weighted_more n w in
      elim (cases_eq t n) [
        | inl here ↦ omega (arith, long, long', as_many_before n (omega (arith, here)), ap v here, none, ap w here)
        | inr ne ↦ omega (arith, long, long', one_less n (omega arith), same n (λ e. ne (sym e)))
      ]

-- a list of weights where t has none
less_at : (xs : List ℕ) (t : ℕ) → get_or (set xs t 0) t 0 ≡ 0
less_at xs t = elim (cases_lt t (length xs)) [
  | inl low ↦ get_or-set_same xs t 0 0 low
  | inr past ↦ get_or_past (set xs t 0) t 0 (omega (arith, past, length-set xs t 0))
]

count_less : (xs : List ℕ) (t n : ℕ) → t < n → length (weighted n (λ u. get_or (set xs t 0) u 0)) + min 1 (get_or xs t 0) ≡ length (weighted n (λ u. get_or xs u 0))
count_less xs t n low = one_less (λ u. get_or (set xs t 0) u 0) (λ u. get_or xs u 0) t (less_at xs t) (λ u ne. get_or-set_other xs t u 0 0 ne) n low

-- how many numbers have a weight
count_weighted : (w : ℕ → ℕ) (n : ℕ) → length (weighted n w) ≡ sum_by (λ p. min 1 (w p)) (range_with_len 0 n)
count_weighted w zero = refl
count_weighted w (suc n) =
    let e : suc n ≡ n + 1 = omega arith in
    let one : sum_by (λ p. min 1 (w p)) (n ∷ []) ≡ min 1 (w n) = sum_by-cons (λ p. min 1 (w p)) n [] ∙ omega arith in
    omega (
      arith,
      ap (λ k. length (weighted k w)) e,
      weighted_more n w,
      count_weighted w n,
      ap (λ k. sum_by (λ p. min 1 (w p)) (range_with_len 0 k)) e,
      ap (sum_by (λ p. min 1 (w p))) (range_more n 0 n (zero-add n)),
      sum_by-append (λ p. min 1 (w p)) (range_with_len 0 n) (n ∷ []),
      one,
    )

-- how many places and arcs are left without a live transition
pub size_without_trans : (g : Graph) (t : ℕ) → IsTrans g t → (length (live_places (without_trans g t)) ≡ length (live_places g)) × (count_arcs (without_trans g t) + (length (taken_places g t) + length (given_places g t)) ≡ count_arcs g)
size_without_trans g t live =
    let h = without_trans g t in
    let n = length g.trans in
    let f = arc_count n in
    let low : t < n = elim (cases_lt t n) [ inl low ↦ low | inr past ↦ absurd (false≢true (sym (ap is_some (get_or_past g.trans t None past)) ∙ live)) ] in
    let taken : Option Place → ℕ = λ o. min 1 (taken_by t o) in
    let given : Option Place → ℕ = λ o. min 1 (given_by t o) in (
      omega (
        arith,
        places_sum g,
        places_sum h,
        sum_listed live_count g,
        sum_listed live_count h,
        sum_map live_count (without_arcs_of t) g.places,
        sum_same (λ o. live_count (without_arcs_of t o)) live_count g.places kept,
      ),
      omega (
        arith,
        arcs_sum g,
        arcs_sum h,
        ap (λ n. sum_places (arc_count n) h) (length-set g.trans t None),
        sum_listed f g,
        sum_listed f h,
        sum_map f (without_arcs_of t) g.places,
        sum_three (λ o. f (without_arcs_of t o)) taken given f g.places (fewer low),
        sum_listed taken g,
        sum_listed given g,
        count_weighted (takes g t) (length g.places),
        count_weighted (gives g t) (length g.places),
      ),
    )
  where
    kept : (o : Option Place) → live_count (without_arcs_of t o) ≡ live_count o
    kept None = refl
    kept (Some x) = refl

    fewer : t < length g.trans → (o : Option Place) → arc_count (length g.trans) (without_arcs_of t o) + (min 1 (taken_by t o) + min 1 (given_by t o)) ≡ arc_count (length g.trans) o
    fewer low None = omega (arith, none_counts (length g.trans))
    fewer low (Some x) = omega (arith, count_less x.taken t (length g.trans) low, count_less x.given t (length g.trans) low)

-- the places round t
abbrev pub touched_places : Graph → ℕ → List ℕ
touched_places g t = filter (is_touched g t) (place_numbers g)

old_long : (g : Graph) (t : ℕ) → length (map (remaining_place g t) (place_numbers g)) ≡ length g.places
old_long g t = length-map (place_numbers g) (remaining_place g t) ∙ length-range_with_len 0 (length g.places)

-- what the new places count is what the pairs round t do
sum_new : (f : Option Place → ℕ) (g : Graph) (t : ℕ) → sum_by (λ p. f (place_at (contracted g t) p)) (range_with_len (length g.places) (new_places g t)) ≡ sum_by (λ x. f (pair_place g t x)) (pairs_round g t)
sum_new f g t =
    let n = length g.places in
    let old = map (remaining_place g t) (place_numbers g) in
    let new = map (pair_place g t) (pairs_round g t) in
    ap (λ k. sum_by (λ p. f (place_at (contracted g t) p)) (range_with_len n k)) (sym (length-map (pairs_round g t) (pair_place g t)))
    ∙ sum_numbers (λ p. f (place_at (contracted g t) p)) f None new n
    (λ i l. ap f (get_or-append_right old new n (n + i) None (old_long g t) (omega arith) ∙ ap (λ k. get_or new k None) (let e : n + i - n ≡ i = omega arith in e)))
    ∙ sum_map f (pair_place g t) (pairs_round g t)

sum_contracted : (f : Option Place → ℕ) (g : Graph) (t : ℕ) → f None ≡ 0
    → sum_places f (contracted g t) + sum_by (λ p. f (place_at g p)) (touched_places g t)
    ≡ sum_places f g + sum_by (λ p. f (place_at (contracted g t) p)) (range_with_len (length g.places) (new_places g t))
sum_contracted f g t none =
    let h = contracted g t in
    let old = map (remaining_place g t) (place_numbers g) in
    let new = map (pair_place g t) (pairs_round g t) in
    let c : ℕ → ℕ = λ p. f (place_at g p) in
    omega (
      arith,
      sum_listed f h,
      sum_by-append f old new,
      sum_map f (remaining_place g t) (place_numbers g),
      sum_same (λ p. f (remaining_place g t p)) (λ p. cond (is_touched g t p) 0 (c p)) (place_numbers g) (λ p. left p (is_touched g t p) refl),
      sum_both c (is_touched g t) (place_numbers g),
      sum_map f (pair_place g t) (pairs_round g t),
      sum_new f g t,
    )
  where
    left : (p : ℕ) (z : Bool) → is_touched g t p ≡ z → f (cond (is_touched g t p) None (place_at g p)) ≡ cond (is_touched g t p) 0 (f (place_at g p))
    left p true e = rw e none
    left p false e = rw e refl

-- a place round t is live
pub touched_live : (g : Graph) (t p : ℕ) → is_touched g t p ≡ true → IsPlace g p
touched_live g t p e = elim (cases_Bool (ltb 0 (takes g t p))) [
  | inl h ↦ taken_is_place g t p (ltb-true 0 (takes g t p) h)
  | inr h ↦ given_is_place g t p (ltb-true 0 (gives g t p) (rw h at e))
]

-- a new place is live
pub new_live : (g : Graph) (t p : ℕ) → length g.places ≤ p → p < length g.places + new_places g t → IsPlace (contracted g t) p
new_live g t p low high =
    let new = map (pair_place g t) (pairs_round g t) in
    let k = p - length g.places in
    ap is_some (get_or-append_right (map (remaining_place g t) (place_numbers g)) new (length g.places) p None (old_long g t) low ∙ get_or-map (pair_place g t) (pairs_round g t) k (0, 0) None (omega (arith, low, high)))

-- how many places and arcs there are once t is contracted
pub size_contracted : (g : Graph) (t : ℕ)
    → (length (live_places (contracted g t)) + length (touched_places g t) ≡ length (live_places g) + new_places g t)
    × (count_arcs (contracted g t) + sum_by (count_arcs_at g) (touched_places g t) ≡ count_arcs g + sum_by (count_arcs_at (contracted g t)) (range_with_len (length g.places) (new_places g t)))
size_contracted g t = (places, arcs)
  where
    h : Graph
    h = contracted g t

    here : (p : ℕ) (z : Bool) → is_touched g t p ≡ z → cond z (live_count (place_at g p)) 0 ≡ cond z 1 0
    here p true e = ap {B = ℕ} (λ z. cond z 1 0) (touched_live g t p e)
    here p false e = refl

    removed : sum_by (λ p. live_count (place_at g p)) (touched_places g t) ≡ length (touched_places g t)
    removed = sum_filter (λ p. live_count (place_at g p)) (is_touched g t) (place_numbers g)
        ∙ sum_same (λ p. cond (is_touched g t p) (live_count (place_at g p)) 0) (λ p. cond (is_touched g t p) 1 0) (place_numbers g) (λ p. here p (is_touched g t p) refl)
        ∙ sym (count_filter (is_touched g t) (place_numbers g))

    ones : (xs : List (ℕ × ℕ)) → sum_by (λ x. live_count (pair_place g t x)) xs ≡ length xs
    ones [] = refl
    ones (x ∷ xs) = omega (arith, sum_by-cons (λ x. live_count (pair_place g t x)) x xs, ones xs)

    places : length (live_places h) + length (touched_places g t) ≡ length (live_places g) + new_places g t
    places = omega (arith, places_sum g, places_sum h, sum_contracted live_count g t refl, removed, sum_new live_count g t, ones (pairs_round g t))

    arcs : count_arcs h + sum_by (count_arcs_at g) (touched_places g t) ≡ count_arcs g + sum_by (count_arcs_at h) (range_with_len (length g.places) (new_places g t))
    arcs = omega (
      arith,
      arcs_sum g,
      arcs_sum h,
      ap (λ n. sum_places (arc_count n) h) (length-set g.trans t None),
      ap (λ n. sum_by (λ p. arc_count n (place_at h p)) (range_with_len (length g.places) (new_places g t))) (length-set g.trans t None),
      sum_contracted (arc_count (length g.trans)) g t (none_counts (length g.trans)),
    )
