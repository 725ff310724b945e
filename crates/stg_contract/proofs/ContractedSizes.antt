-- How large the numbers of the contracted graph are.
use Rattle.std.proofs.Common.{◌≡◌, ◌≢◌, ◌<◌, ◌≤◌, ◌+◌, ◌⊎◌, ◌&&◌, ◌||◌, ◌^◌, ℕ, Bool, true, false, not, cond, All, List, length, get_or, min, Option, Some, None, is_some, ltb, eqb, eq-eqb, refl, sym, ap, ◌∙◌, subst, inl, inr, arith, zero-add}
use Rattle.std.proofs.lemmas.Bool.{and_parts, cases_lt, cases_eq, cases_Bool, ne_eqb, not-true, lt-ltb, le-ltb, ltb-true, ltb-false, false≢true}
use Rattle.std.proofs.lemmas.List.{get_or_past}
use Rattle.std.proofs.lemmas.List.FromFn.{get_or-map-range_with_len, length-map-range_with_len}
use Rattle.stg_net.specs.declared.limits.TheConstants.Limits.{PART}
use Rattle.std.specs.List.{list_any}
use Rattle.stg_net.specs.Graph.{Graph, Place, IsPlace, place_at, tokens_in, taken_by, given_by, tokens_at, takes, gives}
use Rattle.stg_net.specs.Contraction.{contracted, each_other, pairs_round}
use Rattle.stg_edit.specs.Counted.{count_arcs}
use Rattle.stg_edit.specs.Walks.{given_places}
use Rattle.stg_edit.specs.Replacing.{IsSmallPair}
use Rattle.stg_edit.specs.Drafts.{IsWeightlessPastLast}
use Rattle.stg_laws.proofs.Origins.{Origin, NoPlace, OldPlace, PairPlace, sum_over, IsOriginAt}
use Rattle.stg_laws.proofs.ContractedOrigins.{contracted-IsContraction, place_from, place_at-origin, pairs_around}
use Rattle.stg_laws.specs.Secure.{IsPureOrdinary}
use Rattle.stg_contract.specs.Verdicts.{IsWithinLimits}
use Rattle.stg_contract.specs.inner.Weights.{arc_weight, trans_round, weight_in}
use Rattle.stg_contract.specs.inner.Sums.{is_heavy, is_heavy_at, is_large_pair, is_large_after, is_large_round, is_past, is_large_at, HasLargePlace}
use Rattle.stg_edit.proofs.LiveEnds.{taken_is_place, given_is_place}
use Rattle.stg_contract.proofs.WeightLists.{weight_in-weighted}
use Rattle.stg_contract.proofs.DummyTests.{any_at, any_from, taken_below, given_below}
use Rattle.stg_contract.proofs.LeftPlaces.{IsLeft, HasPair, StandsFor, left_found, left_there, left_stands}

-- a number for each transition but t, as it is read
each_other-at : (g : Graph) (t : ℕ) (f : ℕ → ℕ) (u : ℕ)
    → get_or (each_other g t f) u 0 ≡ cond (ltb u (length g.trans)) (cond (eqb u t) 0 (f u)) 0
each_other-at g t f u = elim (cases_lt u (length g.trans)) [
  | inl low ↦ get_or-map-range_with_len (λ u. cond (eqb u t) 0 (f u)) 0 (length g.trans) u u 0 low (zero-add u) ∙ sym (ap (λ z. cond z (cond (eqb u t) 0 (f u)) 0) (lt-ltb u (length g.trans) low))
  | inr past ↦
      get_or_past (each_other g t f) u 0 (omega (arith, past, length-map-range_with_len (λ u. cond (eqb u t) 0 (f u)) 0 (length g.trans)))
      ∙ sym (ap (λ z. cond z (cond (eqb u t) 0 (f u)) 0) (le-ltb u (length g.trans) past))
]

-- the weight of a new place
pair_weight : (take : Bool) (g : Graph) (t u r p q : ℕ)
    → (contracted-IsContraction g t).origin r ≡ PairPlace p q
    → arc_weight take (contracted g t) u r ≡ cond (ltb u (length g.trans)) (cond (eqb u t) 0 (arc_weight take g u p + arc_weight take g u q)) 0
pair_weight true g t u r p q e = ap (taken_by u) (place_at-origin g t r ∙ ap (place_from g t) e) ∙ each_other-at g t (λ u. takes g u p + takes g u q) u
pair_weight false g t u r p q e = ap (given_by u) (place_at-origin g t r ∙ ap (place_from g t) e) ∙ each_other-at g t (λ u. gives g u p + gives g u q) u

-- the weight of a place that stayed
old_weight : (take : Bool) (g : Graph) (t u r p : ℕ) → (contracted-IsContraction g t).origin r ≡ OldPlace p
    → arc_weight take (contracted g t) u r ≡ arc_weight take g u p
old_weight true g t u r p e = ap (taken_by u) (place_at-origin g t r ∙ ap (place_from g t) e)
old_weight false g t u r p e = ap (given_by u) (place_at-origin g t r ∙ ap (place_from g t) e)

gone_weight : (take : Bool) (g : Graph) (t u r : ℕ) → (contracted-IsContraction g t).origin r ≡ NoPlace
    → arc_weight take (contracted g t) u r ≡ 0
gone_weight true g t u r e = ap (taken_by u) (place_at-origin g t r ∙ ap (place_from g t) e)
gone_weight false g t u r e = ap (given_by u) (place_at-origin g t r ∙ ap (place_from g t) e)

weight_small : (take : Bool) (g : Graph) → IsWithinLimits g → (u p : ℕ) → arc_weight take g u p ≤ PART.weight
weight_small true g small u p = small.taken u p
weight_small false g small u p = small.given u p

-- where no pair is large
pair_fits : (g : Graph) (t p q : ℕ) → is_large_round g t ≡ false → 0 < takes g t p → 0 < gives g t q
    → is_large_pair g t p q ≡ false
pair_fits g t p q e a b = elim (cases_Bool (is_large_pair g t p q)) [
  | inr h ↦ h
  | inl h ↦ absurd (false≢true (sym e ∙ any_from (λ (x : ℕ × ℕ). is_large_after g t x.0 (given_places g t)) (takes g t) (length g.places) p (taken_below g t p a) a
      (any_from (λ (y : ℕ × ℕ). is_large_pair g t p y.0) (gives g t) (length g.places) q (given_below g t q b) b h)))
]

heavy_is : (t u w : ℕ) (ys : List (ℕ × ℕ)) → u ≢ t → PART.weight < w + weight_in u ys
    → is_heavy t ys (u, w) ≡ true
heavy_is t u w ys other l = (λ i. not (ne_eqb u t other i) && lt-ltb PART.weight (w + weight_in u ys) l i)

three_false : (a b c : Bool) → (a || b || c) ≡ false → (a ≡ false) × (b ≡ false) × (c ≡ false)
three_false true b c e = absurd (false≢true (sym e))
three_false false true c e = absurd (false≢true (sym e))
three_false false false true e = absurd (false≢true (sym e))
three_false false false false e = (refl, refl, refl)

three_true : (a b c : Bool) → (a || b || c) ≡ true → (a ≡ true) ⊎ ((b ≡ true) ⊎ (c ≡ true))
three_true true b c e = inl refl
three_true false true c e = inr (inl refl)
three_true false false true e = inr (inr refl)
three_true false false false e = absurd (false≢true e)

-- the weights of a transition together, where they aren't heavy
sum_fits : (take : Bool) (g : Graph) (t p q u : ℕ) → is_heavy_at take g t p q ≡ false
    → arc_weight take g u q ≤ PART.weight → u < length g.trans → u ≢ t
    → arc_weight take g u p + arc_weight take g u q ≤ PART.weight
sum_fits take g t p q u e fits low other = elim (cases_lt 0 (arc_weight take g u p)) [
  | inr none ↦ omega (arith, none, fits)
  | inl some ↦ elim (cases_lt PART.weight (arc_weight take g u p + arc_weight take g u q)) [
    | inr h ↦ h
    | inl h ↦ absurd (false≢true (sym e ∙ any_from (is_heavy t (trans_round take g q)) (λ u. arc_weight take g u p) (length g.trans) u low some
        (heavy_is t u (arc_weight take g u p) (trans_round take g q) other (omega (arith, h, weight_in-weighted (λ u. arc_weight take g u q) (length g.trans) 0 u (omega arith) (omega (arith, low)))))))
  ]
]

not_heavy : (take : Bool) (g : Graph) (t p q : ℕ) → is_large_pair g t p q ≡ false
    → is_heavy_at take g t p q ≡ false
not_heavy true g t p q e = (three_false (ltb PART.weight (tokens_at g p + tokens_at g q)) (is_heavy_at true g t p q) (is_heavy_at false g t p q) e).1
not_heavy false g t p q e = (three_false (ltb PART.weight (tokens_at g p + tokens_at g q)) (is_heavy_at true g t p q) (is_heavy_at false g t p q) e).2

-- a number for the transitions past the last one
narrow_weight : (take : Bool) (g : Graph) (u p : ℕ) → IsWeightlessPastLast g → length g.trans ≤ u → arc_weight take g u p ≡ 0
narrow_weight true g u p narrow past = (narrow u p past).0
narrow_weight false g u p narrow past = (narrow u p past).1

weight_is_place : (take : Bool) (g : Graph) (u p : ℕ) → 0 < arc_weight take g u p → IsPlace g p
weight_is_place true g u p some = taken_is_place g u p some
weight_is_place false g u p some = given_is_place g u p some

tokens_is_place : (g : Graph) (p : ℕ) → 0 < tokens_at g p → IsPlace g p
tokens_is_place g p = go (place_at g p)
  where
    go : (o : Option Place) → 0 < tokens_in o → is_some o ≡ true
    go None h = absurd (omega (arith, h))
    go (Some x) h = refl

past_at : (take : Bool) (g : Graph) (p : ℕ) → is_large_at g p ≡ false
    → list_any is_past (trans_round take g p) ≡ false
past_at true g p e = (three_false (ltb PART.weight (tokens_at g p)) (list_any is_past (trans_round true g p)) (list_any is_past (trans_round false g p)) e).1
past_at false g p e = (three_false (ltb PART.weight (tokens_at g p)) (list_any is_past (trans_round true g p)) (list_any is_past (trans_round false g p)) e).2

module _ (g : Graph) (t : ℕ) (narrow : IsWeightlessPastLast g) (none : ¬ HasLargePlace g t) (round : is_large_round g t ≡ false) where
  not_large : (p : ℕ) → IsLeft g t p → is_large_at g p ≡ false
  not_large p left = elim (cases_Bool (is_large_at g p)) [ inr h ↦ h | inl h ↦ absurd (none (record { place = p; left = left_there g t p left; large = h })) ]

  -- the weights at a place that is left are within the limit
  left_weight : (take : Bool) (u p : ℕ) → ((takes g t p ≡ 0) × (gives g t p ≡ 0)) ⊎ HasPair g t
      → arc_weight take g u p ≤ PART.weight
  left_weight take u p stays = elim (cases_lt u (length g.trans)) [
    | inr past ↦ omega (arith, narrow_weight take g u p narrow past)
    | inl low ↦ elim (cases_lt PART.weight (arc_weight take g u p)) [
      | inr fits ↦ fits
      | inl h ↦
          let some : 0 < arc_weight take g u p = omega (arith, h) in
          absurd (false≢true (sym (past_at take g p (not_large p (record { live = weight_is_place take g u p some; stays = stays })))
          ∙ any_from is_past (λ u. arc_weight take g u p) (length g.trans) u low some (lt-ltb PART.weight (arc_weight take g u p) h)))
    ]
  ]

  left_tokens : (p : ℕ) → ((takes g t p ≡ 0) × (gives g t p ≡ 0)) ⊎ HasPair g t → tokens_at g p ≤ PART.weight
  left_tokens p stays = elim (cases_lt 0 (tokens_at g p)) [
    | inr none ↦ omega (arith, none)
    | inl some ↦
        let large = not_large p (record { live = tokens_is_place g p some; stays = stays }) in
        ltb-false PART.weight (tokens_at g p) (three_false (ltb PART.weight (tokens_at g p)) (list_any is_past (trans_round true g p)) (list_any is_past (trans_round false g p)) large).0
  ]

  weight_fits : (take : Bool) (u r : ℕ) (o : Origin) → (contracted-IsContraction g t).origin r ≡ o
      → IsOriginAt g t o → arc_weight take (contracted g t) u r ≤ PART.weight
  weight_fits take u r NoPlace o f = omega (arith, gone_weight take g t u r o)
  weight_fits take u r (OldPlace p) o f = omega (arith, old_weight take g t u r p o, left_weight take u p (inl f))
  weight_fits take u r (PairPlace p q) o f =
      let s = arc_weight take g u p + arc_weight take g u q in
      let is = pair_weight take g t u r p q o in
      elim (cases_lt u (length g.trans)) [
        | inl low ↦ elim (cases_eq u t) [
          | inl same ↦ omega (arith, is ∙ (λ i. cond (lt-ltb u (length g.trans) low i) (cond (eq-eqb u t same i) 0 s) 0))
          | inr other ↦ omega (
            arith,
            is ∙ (λ i. cond (lt-ltb u (length g.trans) low i) (cond (ne_eqb u t other i) 0 s) 0),
            sum_fits take g t p q u (not_heavy take g t p q (pair_fits g t p q round f.0 f.1)) (left_weight take u q (inr (record { before = p; after = q; taken = f.0; given = f.1 }))) low other,
          )
        ]
        | inr past ↦ omega (arith, is ∙ (λ i. cond (le-ltb u (length g.trans) past i) (cond (eqb u t) 0 s) 0))
      ]

  tokens_fit : (r : ℕ) (o : Origin) → (contracted-IsContraction g t).origin r ≡ o → IsOriginAt g t o
      → tokens_at (contracted g t) r ≤ PART.weight
  tokens_fit r NoPlace o f = omega (arith, (contracted-IsContraction g t).tokens r ∙ ap (λ x. sum_over x (tokens_at g)) o)
  tokens_fit r (OldPlace p) o f = omega (arith, (contracted-IsContraction g t).tokens r ∙ ap (λ x. sum_over x (tokens_at g)) o, left_tokens p (inl f))
  tokens_fit r (PairPlace p q) o f =
      let few = (three_false (ltb PART.weight (tokens_at g p + tokens_at g q)) (is_heavy_at true g t p q) (is_heavy_at false g t p q) (pair_fits g t p q round f.0 f.1)).0 in
      omega (arith, (contracted-IsContraction g t).tokens r ∙ ap (λ x. sum_over x (tokens_at g)) o, ltb-false PART.weight (tokens_at g p + tokens_at g q) few)

  -- where no test finds a large number, none is past the limits
  pub within_found : count_arcs (contracted g t) ≤ PART.arcs → IsWithinLimits (contracted g t)
  within_found arcs =
      let k = contracted-IsContraction g t in record {
        taken = λ u r. weight_fits true u r (k.origin r) refl (k.around r);
        given = λ u r. weight_fits false u r (k.origin r) refl (k.around r);
        tokens = λ r. tokens_fit r (k.origin r) refl (k.around r);
        arcs = arcs;
      }

-- in a graph within the limits no place has a large number
pub none_large : (g : Graph) (t : ℕ) → IsWithinLimits g → ¬ HasLargePlace g t
none_large g t within l = elim (three_true (ltb PART.weight (tokens_at g l.place)) (list_any is_past (trans_round true g l.place)) (list_any is_past (trans_round false g l.place)) l.large) [
  | inl many ↦ omega (arith, ltb-true PART.weight (tokens_at g l.place) many, within.tokens l.place)
  | inr (inl heavy) ↦ past true heavy
  | inr (inr heavy) ↦ past false heavy
]
  where
    past : (take : Bool) → list_any is_past (trans_round take g l.place) ≡ true → ⊥
    past take e =
        let f = any_at is_past (λ u. arc_weight take g u l.place) (length g.trans) e in
        omega (arith, ltb-true PART.weight (arc_weight take g f.number l.place) f.holds, weight_small take g within f.number l.place)

-- the weight of another transition is the sum over the origin
sum_weight : (take : Bool) (g : Graph) (t u r : ℕ) (o : Origin) → (contracted-IsContraction g t).origin r ≡ o
    → u < length g.trans → u ≢ t → arc_weight take (contracted g t) u r ≡ sum_over o (λ p. arc_weight take g u p)
sum_weight take g t u r NoPlace o low other = gone_weight take g t u r o
sum_weight take g t u r (OldPlace p) o low other = old_weight take g t u r p o
sum_weight take g t u r (PairPlace p q) o low other =
    pair_weight take g t u r p q o ∙ (λ i. cond (lt-ltb u (length g.trans) low i) (cond (ne_eqb u t other i) 0 (arc_weight take g u p + arc_weight take g u q)) 0)

thin_weight : (take : Bool) (g : Graph) (t p : ℕ) → IsPureOrdinary g t → arc_weight take g t p ≤ 1
thin_weight true g t p pure = pure.takes_one p
thin_weight false g t p pure = pure.gives_one p

-- a large number at a place that is left stays
pub large_stays : (g : Graph) (t : ℕ) → IsPureOrdinary g t → HasLargePlace g t → ¬ IsWithinLimits (contracted g t)
large_stays g t pure l within = elim (three_true (ltb PART.weight (tokens_at g l.place)) (list_any is_past (trans_round true g l.place)) (list_any is_past (trans_round false g l.place)) l.large) [
  | inl many ↦ omega (arith, ltb-true PART.weight (tokens_at g l.place) many, (contracted-IsContraction g t).tokens stands.place, stands.covers (tokens_at g), within.tokens stands.place)
  | inr (inl heavy) ↦ past true heavy
  | inr (inr heavy) ↦ past false heavy
]
  where
    stands : StandsFor g t l.place
    stands = left_stands g t l.place (left_found g t l.place l.left)

    past : (take : Bool) → list_any is_past (trans_round take g l.place) ≡ true → ⊥
    past take e =
        let f = any_at is_past (λ u. arc_weight take g u l.place) (length g.trans) e in
        let u = f.number in
        let high = ltb-true PART.weight (arc_weight take g u l.place) f.holds in
        elim (cases_eq u t) [
          | inl same ↦ absurd (omega (arith, high, ap (λ v. arc_weight take g v l.place) same, thin_weight take g t l.place pure))
          | inr other ↦ omega (
            arith,
            high,
            sum_weight take g t u stands.place ((contracted-IsContraction g t).origin stands.place) refl (omega (arith, f.high)) other,
            stands.covers (λ p. arc_weight take g u p),
            weight_small take (contracted g t) within u stands.place,
          )
        ]

-- a heavy weight at a pair is too large
heavy_large : (take : Bool) (g : Graph) (t r p q : ℕ)
    → (contracted-IsContraction g t).origin r ≡ PairPlace p q → is_heavy_at take g t p q ≡ true
    → IsWithinLimits (contracted g t) → ⊥
heavy_large take g t r p q o e small =
    let f = any_at (is_heavy t (trans_round take g q)) (λ u. arc_weight take g u p) (length g.trans) e in
    let u = f.number in
    let low : u < length g.trans = omega (arith, f.high) in
    let parts = and_parts (not (eqb u t)) (ltb PART.weight (arc_weight take g u p + weight_in u (trans_round take g q))) f.holds in
    let other = not-true (eqb u t) parts.0 in
    let s = arc_weight take g u p + arc_weight take g u q in
    let is = pair_weight take g t u r p q o ∙ (λ i. cond (lt-ltb u (length g.trans) low i) (cond (other i) 0 s) 0) in
    omega (
      arith,
      ltb-true PART.weight (arc_weight take g u p + weight_in u (trans_round take g q)) parts.1,
      weight_in-weighted (λ u. arc_weight take g u q) (length g.trans) 0 u (omega arith) f.high,
      is,
      weight_small take (contracted g t) small u r,
    )

-- a large pair is past the limits
pub round_stays : (g : Graph) (t : ℕ) → is_large_round g t ≡ true → ¬ IsWithinLimits (contracted g t)
round_stays g t e small =
    let x = any_at (λ (x : ℕ × ℕ). is_large_after g t x.0 (given_places g t)) (takes g t) (length g.places) e in
    let y = any_at (λ (y : ℕ × ℕ). is_large_pair g t x.number y.0) (gives g t) (length g.places) x.holds in
    let p = x.number in
    let q = y.number in
    let o = (contracted-IsContraction g t).pair p q x.some y.some in
    elim (three_true (ltb PART.weight (tokens_at g p + tokens_at g q)) (is_heavy_at true g t p q) (is_heavy_at false g t p q) y.holds) [
      | inl many ↦ omega (arith, ltb-true PART.weight (tokens_at g p + tokens_at g q) many, (contracted-IsContraction g t).tokens o.0 ∙ ap (λ x. sum_over x (tokens_at g)) o.1, small.tokens o.0)
      | inr rest ↦ elim rest [
        | inl heavy ↦ heavy_large true g t o.0 p q o.1 heavy small
        | inr heavy ↦ heavy_large false g t o.0 p q o.1 heavy small
      ]
    ]

-- too many arcs are past the limits
pub many_stays : (g : Graph) (t : ℕ) → ltb PART.arcs (count_arcs (contracted g t)) ≡ true
    → ¬ IsWithinLimits (contracted g t)
many_stays g t many within = omega (arith, ltb-true PART.arcs (count_arcs (contracted g t)) many, within.arcs)

-- a count that stands still at the last number of 64 bits is as large
pub many_same : (a b : ℕ) → a ≡ min b 18446744073709551615 → ltb PART.arcs a ≡ ltb PART.arcs b
many_same a b e = elim (cases_lt PART.arcs b) [
  | inl l ↦ lt-ltb PART.arcs a (omega (arith, l, e)) ∙ sym (lt-ltb PART.arcs b l)
  | inr h ↦ le-ltb PART.arcs a (omega (arith, h, e)) ∙ sym (le-ltb PART.arcs b h)
]

-- the sums at each pair are small where the numbers of the contracted graph are
pair_sum : (take : Bool) (g : Graph) (t u r p q : ℕ) → u < length g.trans → IsPureOrdinary g t → IsWithinLimits (contracted g t) → (contracted-IsContraction g t).origin r ≡ PairPlace p q → arc_weight take g u p + arc_weight take g u q < 2 ^ 32
pair_sum take g t u r p q low plain small o =
    let s = arc_weight take g u p + arc_weight take g u q in
    let is = pair_weight take g t u r p q o in
    elim (cases_eq u t) [
      | inl same ↦ subst (λ v. arc_weight take g v p + arc_weight take g v q < 2 ^ 32) (sym same) (omega (arith, thin_weight take g t p plain, thin_weight take g t q plain))
      | inr other ↦ omega (arith, is ∙ (λ i. cond (lt-ltb u (length g.trans) low i) (cond (ne_eqb u t other i) 0 s) 0), weight_small take (contracted g t) small u r)
    ]

small_pair : (g : Graph) (t p q : ℕ) → IsPureOrdinary g t → IsWithinLimits (contracted g t) → 0 < takes g t p → 0 < gives g t q → IsSmallPair g (p, q)
small_pair g t p q plain small a b =
    let o = (contracted-IsContraction g t).pair p q a b in record {
      tokens = omega (arith, (contracted-IsContraction g t).tokens o.0 ∙ ap (λ x. sum_over x (tokens_at g)) o.1, small.tokens o.0);
      taken = λ u low. pair_sum true g t u o.0 p q low plain small o.1;
      given = λ u low. pair_sum false g t u o.0 p q low plain small o.1;
    }

-- so the sums at all pairs are small
pub pairs_small : (g : Graph) (t : ℕ) → IsPureOrdinary g t → IsWithinLimits (contracted g t) → All (IsSmallPair g) (pairs_round g t)
pairs_small g t plain small k (p, q) low =
    let x = get_or (pairs_round g t) k (p, q) in
    let f = pairs_around g t k (p, q) low in
    small_pair g t x.0 x.1 plain small f.0 f.1
