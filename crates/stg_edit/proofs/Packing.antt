-- The arcs of a draft's net: lists of weights, the weights of the listed arcs, and their order.
use Rattle.std.proofs.Common.{◌≡◌, ◌≢◌, ℕ, zero, suc, ◌+◌, ◌<◌, ◌≤◌, ◌⊎◌, ◌∷◌, ◌++◌, [], Bool, true, false, List, length, map, get_or, slice_index, set, All, AllPairs, ltb, refl, sym, ap, ◌∙◌, subst, inl, inr, arith, zero-add, append_assoc}
use Rattle.std.specs.List.{range_with_len}
use Rattle.std.proofs.lemmas.Bool.{cases_lt, cases_eq, cond_both, lt-ltb, le-ltb, false_from_ne_true}
use Rattle.std.proofs.lemmas.List.{length-set, get_or-set_same, get_or-set_other}
use Rattle.std.proofs.lemmas.List.Elements.{All-nil, All-append, All-map, All-filter}
use Rattle.std.proofs.lemmas.List.FromFn.{length-range_with_len, get_or-range_with_len}
use Rattle.std.proofs.lemmas.List.Sums.{sum_by-append}
use Rattle.stg_net.specs.declared.arc.NetArc.{NetArc}
use Rattle.stg_net.specs.Net.{IsArcOf, IsBefore}
use Rattle.stg_net.specs.Graph.{Graph, takes, gives}
use Rattle.stg_net.specs.Initial.{connects, weight_of}
use Rattle.stg_net.specs.Ordered.{listed_below}
use Rattle.stg_net.proofs.Buckets.{All-listed_below}
use Rattle.stg_net.proofs.Moved.{AllPairs-append}
use Rattle.stg_net.proofs.Weights.{Connects, connects_parts, connects_whole, share, share_here, share_none, weight_of-cons}
use Rattle.stg_arena.specs.WalkItems.{weighted_from, weighted}
use Rattle.stg_edit.specs.inner.Packing.{weighted_arc, numbered_arcs, place_arcs, all_arcs}

-- the list after these weights were written
abbrev pub filled : List (ℕ × ℕ) → List ℕ → List ℕ
filled [] list = list
filled (x ∷ xs) list = filled xs (set list x.0 x.1)

-- with the weights that are left, the list has the weights w
pub record IsFilling (n : ℕ) (w : ℕ → ℕ) (list : List ℕ) (rest : List (ℕ × ℕ)) : Type 0 where
  pub long : length list ≡ n
  pub below : All (λ (x : ℕ × ℕ). x.0 < n) rest
  pub right : (t : ℕ) → t < n → get_or (filled rest list) t 0 ≡ w t

filled_right : (w : ℕ → ℕ) (k a : ℕ) (list : List ℕ) (t : ℕ) → a + k ≤ length list → t < a + k → (t < a → get_or list t 0 ≡ w t) → (a ≤ t → get_or list t 0 ≡ 0) → get_or (filled (weighted_from w a k) list) t 0 ≡ w t
filled_right w zero a list t long low here later = here (omega arith)
filled_right w (suc k) a list t long low here later =
    elim (cases_lt 0 (w a)) [
      | inl some ↦
          rw (lt-ltb 0 (w a) some)
          (filled_right w k (a + 1) (set list a (w a)) t (omega (arith, length-set list a (w a))) (omega arith)
          (λ h. elim (cases_eq t a) [
            | inl e ↦ ap (λ z. get_or (set list a (w a)) z 0) e ∙ get_or-set_same list a (w a) 0 (omega arith) ∙ ap w (sym e)
            | inr ne ↦ get_or-set_other list a t (w a) 0 ne ∙ here (omega arith)
          ])
          (λ h. get_or-set_other list a t (w a) 0 (λ e. absurd (omega arith)) ∙ later (omega arith)))
      | inr none ↦
          rw (le-ltb 0 (w a) none)
          (filled_right w k (a + 1) list t (omega arith) (omega arith)
          (λ h. elim (cases_eq t a) [
            | inl e ↦ later (omega arith) ∙ (let z : 0 ≡ w a = omega arith in z) ∙ ap w (sym e)
            | inr ne ↦ here (omega arith)
          ])
          (λ h. later (omega arith)))
    ]

-- the numbers of a range are below its end
pub below_range : (n : ℕ) → All (λ k. k < n) (range_with_len 0 n)
below_range n k d below =
    let inside : k < n = omega (arith, length-range_with_len 0 n) in
    omega (arith, get_or-range_with_len 0 n k d inside)

-- the numbers of a walk are below its end
pub weighted_below : (n : ℕ) (w : ℕ → ℕ) → All (λ (x : ℕ × ℕ). x.0 < n) (weighted n w)
weighted_below n w = All-filter (λ (x : ℕ × ℕ). ltb 0 x.1) (λ (x : ℕ × ℕ). x.0 < n) (map (λ k. (k, w k)) (range_with_len 0 n)) (All-map (λ (x : ℕ × ℕ). x.0 < n) (λ k. (k, w k)) (range_with_len 0 n) (below_range n))

-- the list before the first weight
pub filling_starts : (n : ℕ) (w : ℕ → ℕ) (list : List ℕ) (rest : List (ℕ × ℕ)) → rest ≡ weighted n w → length list ≡ n → ((t : ℕ) → t < n → get_or list t 0 ≡ 0) → IsFilling n w list rest
filling_starts n w list rest same long zeros = subst (IsFilling n w list) (sym same) (record {
  long = long;
  below = weighted_below n w;
  right = λ t low. filled_right w n 0 list t (omega arith) (omega arith) (λ h. absurd (omega arith)) (λ h. zeros t low);
})

-- the list with one more weight
pub filling_goes_on : (n : ℕ) (w : ℕ → ℕ) (list : List ℕ) (x : ℕ × ℕ) (rest later : List (ℕ × ℕ)) → rest ≡ x ∷ later → IsFilling n w list rest → IsFilling n w (set list x.0 x.1) later
filling_goes_on n w list x rest later same f =
    let g = subst (IsFilling n w list) same f in
    record {
      long = length-set list x.0 x.1 ∙ g.long;
      below = λ k d low. g.below (suc k) d (omega arith);
      right = g.right;
    }

-- the next weight has its place in the list
pub first_below : (n : ℕ) (w : ℕ → ℕ) (list : List ℕ) (x : ℕ × ℕ) (rest later : List (ℕ × ℕ)) → rest ≡ x ∷ later → IsFilling n w list rest → x.0 < length list
first_below n w list x rest later same f =
    let g = subst (IsFilling n w list) same f in
    omega (arith, g.below 0 x (omega arith), g.long)

-- the list once all weights are written
pub filled_in : (n : ℕ) (w : ℕ → ℕ) (list : List ℕ) (rest : List (ℕ × ℕ)) → rest ≡ [] → IsFilling n w list rest → (t : ℕ) → t < n → get_or list t 0 ≡ w t
filled_in n w list rest same f = (subst (IsFilling n w list) same f).right

-- one arc's part of a weight
arc_share : (into : Bool) (t p : ℕ) (a : NetArc) → weight_of (weighted_arc a) into t p ≡ share into t p a
arc_share into t p a = elim (cases_lt 0 a.weight) [
  | inl some ↦ rw (lt-ltb 0 a.weight some) (omega (arith, weight_of-cons into t p a []))
  | inr none ↦ rw (le-ltb 0 a.weight none) (cond_both (connects into t p a) a.weight 0 (λ k. 0 ≡ k) (λ yes. omega arith) (λ otherwise. refl))
]

arc_here : (a : NetArc) → weight_of (weighted_arc a) a.into a.trans a.place ≡ a.weight
arc_here a = arc_share a.into a.trans a.place a ∙ share_here a.into a.trans a.place a (connects_whole a.into a.trans a.place a (record { trans_is = refl; place_is = refl; goes_is = refl }))

arc_else : (into : Bool) (t p : ℕ) (a : NetArc) → (Connects into t p a → ⊥) → weight_of (weighted_arc a) into t p ≡ 0
arc_else into t p a apart = arc_share into t p a ∙ share_none into t p a (false_from_ne_true _ (λ e. apart (connects_parts into t p a e)))

weight_append : (into : Bool) (t p : ℕ) (xs ys : List NetArc) → weight_of (xs ++ ys) into t p ≡ weight_of xs into t p + weight_of ys into t p
weight_append into t p xs ys = sum_by-append (share into t p) xs ys

module _ (into : Bool) (t p : ℕ) (f : ℕ → List NetArc) where
  weight_nowhere : (m : ℕ) → ((j : ℕ) → j < m → weight_of (f j) into t p ≡ 0) → weight_of (listed_below f m) into t p ≡ 0
  weight_nowhere zero none = refl
  weight_nowhere (suc m) none = omega (arith, weight_append into t p (listed_below f m) (f m), weight_nowhere m (λ j h. none j (omega arith)), none m (omega arith))

  -- where one of the lists alone has such arcs
  weight_there : (m k : ℕ) → k < m → ((j : ℕ) → j ≢ k → weight_of (f j) into t p ≡ 0) → weight_of (listed_below f m) into t p ≡ weight_of (f k) into t p
  weight_there zero k h none = absurd (omega arith)
  weight_there (suc m) k h none = elim (cases_eq k m) [
    | inl e ↦ weight_append into t p (listed_below f m) (f m) ∙ ap (λ z. z + weight_of (f m) into t p) (weight_nowhere m (λ j l. none j (λ same. absurd (omega arith)))) ∙ zero-add (weight_of (f m) into t p) ∙ ap (λ z. weight_of (f z) into t p) (sym e)
    | inr ne ↦ omega (arith, weight_append into t p (listed_below f m) (f m), weight_there m k (omega arith) none, none m (λ same. ne (sym same)))
  ]

module _ (g : Graph) where
  between_else : (into : Bool) (t p r s q u : ℕ) → (q ≢ p) ⊎ (u ≢ t) → weight_of (numbered_arcs g r s q u) into t p ≡ 0
  between_else into t p r s q u apart =
      let out : NetArc = record { place = q; trans = u; into = false; weight = takes g s r } in
      let back : NetArc = record { place = q; trans = u; into = true; weight = gives g s r } in
      omega (
        arith,
        weight_append into t p (weighted_arc out) (weighted_arc back),
        arc_else into t p out (λ j. elim apart [ inl n ↦ n j.place_is | inr n ↦ n j.trans_is ]),
        arc_else into t p back (λ j. elim apart [ inl n ↦ n j.place_is | inr n ↦ n j.trans_is ]),
      )

  between_taken : (r s q u : ℕ) → weight_of (numbered_arcs g r s q u) false u q ≡ takes g s r
  between_taken r s q u =
      let out : NetArc = record { place = q; trans = u; into = false; weight = takes g s r } in
      let back : NetArc = record { place = q; trans = u; into = true; weight = gives g s r } in
      omega (arith, weight_append false u q (weighted_arc out) (weighted_arc back), arc_here out, arc_else false u q back (λ j. false_is_not_true (sym j.goes_is)))
    where
      false_is_not_true : false ≡ true → ⊥
      false_is_not_true e = cc

  between_given : (r s q u : ℕ) → weight_of (numbered_arcs g r s q u) true u q ≡ gives g s r
  between_given r s q u =
      let out : NetArc = record { place = q; trans = u; into = false; weight = takes g s r } in
      let back : NetArc = record { place = q; trans = u; into = true; weight = gives g s r } in
      omega (arith, weight_append true u q (weighted_arc out) (weighted_arc back), arc_here back, arc_else true u q out (λ j. false_is_not_true j.goes_is))
    where
      false_is_not_true : false ≡ true → ⊥
      false_is_not_true e = cc

  module _ (places trans : List ℕ) where
    place_else : (into : Bool) (u q r j : ℕ) → j ≢ q → weight_of (place_arcs g trans r j) into u q ≡ 0
    place_else into u q r j apart = weight_nowhere into u q (λ v. numbered_arcs g r (slice_index trans v) j v) (length trans) (λ v h. between_else into u q r (slice_index trans v) j v (inl apart))

    in_place : (into : Bool) (u q : ℕ) → u < length trans → q < length places → weight_of (all_arcs g places trans) into u q ≡ weight_of (numbered_arcs g (slice_index places q) (slice_index trans u) q u) into u q
    in_place into u q inside there =
        weight_there into u q (λ j. place_arcs g trans (slice_index places j) j) (length places) q there (λ j apart. place_else into u q (slice_index places j) j apart)
        ∙ weight_there into u q (λ v. numbered_arcs g (slice_index places q) (slice_index trans v) q v) (length trans) u inside (λ v apart. between_else into u q (slice_index places q) (slice_index trans v) q v (inr apart))

    -- the listed arcs have the weights of the draft
    pub listed_taken : (u q : ℕ) → u < length trans → q < length places → weight_of (all_arcs g places trans) false u q ≡ takes g (slice_index trans u) (slice_index places q)
    listed_taken u q inside there = in_place false u q inside there ∙ between_taken (slice_index places q) (slice_index trans u) q u

    pub listed_given : (u q : ℕ) → u < length trans → q < length places → weight_of (all_arcs g places trans) true u q ≡ gives g (slice_index trans u) (slice_index places q)
    listed_given u q inside there = in_place true u q inside there ∙ between_given (slice_index places q) (slice_index trans u) q u

-- what holds of the arc, if it has a weight
weighted_all : (P : NetArc → Type 0) (a : NetArc) → (0 < a.weight → P a) → All P (weighted_arc a)
weighted_all P a holds = elim (cases_lt 0 a.weight) [
  | inl some ↦ rw (lt-ltb 0 a.weight some) (one (holds some))
  | inr none ↦ rw (le-ltb 0 a.weight none) (All-nil P)
]
  where
    one : P a → All P (a ∷ [])
    one p zero d h = p
    one p (suc k) d h = absurd (omega arith)

weighted_alone : (R : NetArc → NetArc → Type 0) (a : NetArc) → AllPairs R (weighted_arc a)
weighted_alone R a = elim (cases_lt 0 a.weight) [
  | inl some ↦ rw (lt-ltb 0 a.weight some) (λ i j d lt low. absurd (omega arith))
  | inr none ↦ rw (le-ltb 0 a.weight none) (λ i j d lt low. absurd (omega arith))
]

between_all : (P : NetArc → Type 0) (g : Graph) (r s q u : ℕ) → ((into : Bool) (w : ℕ) → 0 < w → P (record { place = q; trans = u; into = into; weight = w })) → All P (numbered_arcs g r s q u)
between_all P g r s q u holds =
    let out : NetArc = record { place = q; trans = u; into = false; weight = takes g s r } in
    let back : NetArc = record { place = q; trans = u; into = true; weight = gives g s r } in
    All-append P (weighted_arc out) (weighted_arc back) (weighted_all P out (holds false (takes g s r))) (weighted_all P back (holds true (gives g s r)))

between_order : (g : Graph) (r s q u : ℕ) → AllPairs IsBefore (numbered_arcs g r s q u)
between_order g r s q u =
    let out : NetArc = record { place = q; trans = u; into = false; weight = takes g s r } in
    let back : NetArc = record { place = q; trans = u; into = true; weight = gives g s r } in
    let first : All (λ a. a ≡ out) (weighted_arc out) = weighted_all (λ a. a ≡ out) out (λ h. refl) in
    let second : All (λ a. a ≡ back) (weighted_arc back) = weighted_all (λ a. a ≡ back) back (λ h. refl) in
    let before : IsBefore out back = inr (refl, inr (refl, (refl, refl))) in
    AllPairs-append IsBefore (weighted_arc out) (weighted_arc back) (weighted_alone IsBefore out) (weighted_alone IsBefore back)
    (λ i j d low high.
    let e = first i d low in
    let f = second j d high in
    subst (λ a. IsBefore a (get_or (weighted_arc back) j d)) (sym e) (subst (IsBefore out) (sym f) before))

-- lists whose elements have a key that is the list's number, one after the other
listed_order : (P : NetArc → Type 0) (key : NetArc → ℕ) (f : ℕ → List NetArc) (m : ℕ) → ((k : ℕ) → All (λ a. P a × (key a ≡ k)) (f k)) → ((k : ℕ) → AllPairs IsBefore (f k)) → ((a b : NetArc) → P a → P b → key a < key b → IsBefore a b) → AllPairs IsBefore (listed_below f m)
listed_order P key f zero all each up = λ i j d lt low. absurd (omega arith)
listed_order P key f (suc m) all each up =
    let lower : All (λ a. P a × (key a < m)) (listed_below f m) = All-listed_below (λ a. P a × (key a < m)) f m (λ k h i d low. let x = all k i d low in (x.0, omega (arith, x.1))) in
    AllPairs-append IsBefore (listed_below f m) (f m) (listed_order P key f m all each up) (each m)
    (λ i j d low high.
    let x = lower i d low in
    let y = all m j d high in
    up (get_or (listed_below f m) i d) (get_or (f m) j d) x.0 y.0 (omega (arith, x.1, y.1)))

module _ (g : Graph) (places trans : List ℕ) where
  place_order : (r q : ℕ) → AllPairs IsBefore (place_arcs g trans r q)
  place_order r q =
      listed_order (λ a. a.place ≡ q) (λ a. a.trans) (λ u. numbered_arcs g r (slice_index trans u) q u) (length trans)
      (λ u. between_all (λ a. (a.place ≡ q) × (a.trans ≡ u)) g r (slice_index trans u) q u (λ into w some. (refl, refl)))
      (λ u. between_order g r (slice_index trans u) q u)
      (λ a b first second lt. inr (first ∙ sym second, inl lt))

  places_of_arcs : (r q : ℕ) → All (λ (a : NetArc). (Unit {0}) × (a.place ≡ q)) (place_arcs g trans r q)
  places_of_arcs r q = All-listed_below (λ (a : NetArc). (Unit {0}) × (a.place ≡ q)) (λ u. numbered_arcs g r (slice_index trans u) q u) (length trans)
      (λ u h. between_all (λ (a : NetArc). (Unit {0}) × (a.place ≡ q)) g r (slice_index trans u) q u (λ into w some. (tt, refl)))

  -- the listed arcs ascend
  pub listed_ascend : AllPairs IsBefore (all_arcs g places trans)
  listed_ascend =
      listed_order (λ a. Unit {0}) (λ a. a.place) (λ q. place_arcs g trans (slice_index places q) q) (length places)
      (λ q. places_of_arcs (slice_index places q) q) (λ q. place_order (slice_index places q) q) (λ a b first second lt. inl lt)

  -- the listed arcs are between listed places and transitions
  pub listed_there : All (IsArcOf (length places) (length trans)) (all_arcs g places trans)
  listed_there =
      All-listed_below (IsArcOf (length places) (length trans)) (λ q. place_arcs g trans (slice_index places q) q) (length places)
      (λ q there. All-listed_below (IsArcOf (length places) (length trans)) (λ u. numbered_arcs g (slice_index places q) (slice_index trans u) q u) (length trans)
      (λ u inside. between_all (IsArcOf (length places) (length trans)) g (slice_index places q) (slice_index trans u) q u
      (λ into w some. record { place_there = there; trans_there = inside; positive = omega arith })))

-- one more list is added to those so far
pub push_more : (first l1 l2 l3 xs ys : List NetArc) (f : ℕ → List NetArc) (u : ℕ) → l1 ≡ first ++ listed_below f u → l2 ≡ l1 ++ xs → l3 ≡ l2 ++ ys → xs ++ ys ≡ f u → l3 ≡ first ++ listed_below f (u + 1)
push_more first l1 l2 l3 xs ys f u sofar a b whole =
    let one : suc u ≡ u + 1 = omega arith in
    b ∙ ap (λ l. l ++ ys) (a ∙ ap (λ l. l ++ xs) sofar) ∙ append_assoc (first ++ listed_below f u) xs ys ∙ append_assoc first (listed_below f u) (xs ++ ys) ∙ ap (λ l. first ++ (listed_below f u ++ l)) whole ∙ ap (λ k. first ++ listed_below f k) one

-- arcs of the same weights
pub arcs_same : (g : Graph) (p t q u take give : ℕ) → take ≡ takes g t p → give ≡ gives g t p → weighted_arc (record { place = q; trans = u; into = false; weight = take }) ++ weighted_arc (record { place = q; trans = u; into = true; weight = give }) ≡ numbered_arcs g p t q u
arcs_same g p t q u take give a b = λ i. weighted_arc (record { place = q; trans = u; into = false; weight = a i }) ++ weighted_arc (record { place = q; trans = u; into = true; weight = b i })

-- a walk over all transitions is one over as many as are counted
pub walk_is : (walk : List (ℕ × ℕ)) (w : ℕ → ℕ) (count n : ℕ) → walk ≡ weighted n w → count ≡ n → walk ≡ weighted count w
walk_is walk w count n is same = is ∙ ap (λ k. weighted k w) (sym same)
