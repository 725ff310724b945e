-- The draft after a contraction.
use Rattle.std.proofs.Common.{◌^◌, ◌≡◌, ◌≢◌, ◌<◌, ◌≤◌, ◌+◌, ◌-◌, ◌++◌, ◌∷◌, [], ℕ, Bool, List, true, false, cond, map, flat_map, filter, length, None, slice_get, All, ltb, leb, eqb, eq-eqb, subst, sym, ap, ◌∙◌, refl, inl, inr, zero-add, arith}
use Rattle.std.specs.List.{range_with_len}
use Rattle.std.proofs.lemmas.Bool.{cases_lt, cases_eq, cases_Bool, ne_eqb, le-leb, lt-leb, leb-true, ltb-true, ltb-false, or_cases, or_parts}
use Rattle.std.proofs.lemmas.List.{get_or_past}
use Rattle.std.proofs.lemmas.List.Elements.{All-map, filter_passes, All-weaker}
use Rattle.std.proofs.lemmas.List.FromFn.{length-map-range_with_len, get_or-map-range_with_len}
use Rattle.stg_net.specs.Graph.{Graph, IsDummy, place_at, takes, gives, tokens_at, taken_by, given_by}
use Rattle.stg_net.specs.Contraction.{contracted, pairs_round, places_before, places_after}
use Rattle.stg_arena.specs.declared.end.End.{End}
use Rattle.stg_arena.specs.declared.end.Way.{Way}
use Rattle.stg_arena.specs.declared.end.End.TheVariants.{Place, Trans}
use Rattle.stg_arena.specs.declared.end.Way.TheVariants.{Take, Give}
use Rattle.stg_arena.specs.ArenaView.{Layout, none, spot_at, removal_at, removed_at, no_spot, IsLaid, IsTimed, IsRemoved, IsArena}
use Rattle.stg_arena.specs.Incidence.{weight}
use Rattle.stg_arena.specs.WalkItems.{weighted}
use Rattle.stg_arena.specs.Extends.{IsExtended, HasAllCells}
use Rattle.stg_arena.proofs.RemovalTimes.{removals_length, removal_old, removal_new, alive}
use Rattle.stg_arena.proofs.Incidence.{weighted_same}
use Rattle.stg_arena.proofs.Extends.{extended_weight, extended_trans, extended_removed}
use Rattle.stg_edit.specs.inner.Table.{table_place, table_places}
use Rattle.stg_edit.specs.inner.DraftAt.{Base, weight_at, table_at, draft_name, draft_at, now_of}
use Rattle.stg_edit.specs.Editing.{Editing}
use Rattle.stg_edit.specs.inner.View.{spare_of}
use Rattle.stg_edit.specs.inner.RowMerge.{merged_weight}
use Rattle.stg_edit.specs.inner.NewPlaces.{pair_at, pair_arcs, CanMake, IsMade, before_at, pairs_with, pairs_from}
use Rattle.stg_edit.specs.inner.RemovedPlaces.{touch, ArePlacesRemoved}
use Rattle.stg_edit.specs.Replacing.{arcs_of_pair, new_arcs, new_places, IsSmallPair}
use Rattle.stg_edit.proofs.Lists.{All-flat_map}
use Rattle.stg_edit.proofs.DraftTables.{map_but, IsContractedTable, contracted_table}
use Rattle.stg_edit.proofs.DraftChanges.{same_place, trans_lives}
use Rattle.stg_edit.proofs.DraftOfLive.{tokens_now}
use Rattle.stg_edit.proofs.DraftWalks.{weight_in, weight_now, along_trans}
use Rattle.stg_edit.proofs.NewPlaces.{sum_same}

-- the numbers of what has a weight
first_with : (f : ℕ → ℕ) (p : ℕ) (xs : List ℕ) → map {B = ℕ × ℕ} (λ (x : ℕ × ℕ). (p, x.0)) (filter (λ (x : ℕ × ℕ). ltb 0 x.1) (map {B = ℕ × ℕ} (λ k. (k, f k)) xs)) ≡ map {B = ℕ × ℕ} (λ q. (p, q)) (filter (λ k. ltb 0 (f k)) xs)
first_with f p [] = refl
first_with f p (x ∷ xs) = elim (cases_Bool (ltb 0 (f x))) [
  | inl e ↦ rw e (ap (λ r. (p, x) ∷ r) (first_with f p xs))
  | inr e ↦ rw e (first_with f p xs)
]

first_of_each : (f : ℕ → ℕ) (h : ℕ → List (ℕ × ℕ)) (xs : List ℕ) → flat_map (λ (x : ℕ × ℕ). h x.0) (filter (λ (x : ℕ × ℕ). ltb 0 x.1) (map {B = ℕ × ℕ} (λ k. (k, f k)) xs)) ≡ flat_map h (filter (λ k. ltb 0 (f k)) xs)
first_of_each f h [] = refl
first_of_each f h (x ∷ xs) = elim (cases_Bool (ltb 0 (f x))) [
  | inl e ↦ rw e (ap (λ r. h x ++ r) (first_of_each f h xs))
  | inr e ↦ rw e (first_of_each f h xs)
]

module _ (base : Base) (l : Layout) (t : ℕ) (timed : IsTimed l) (range : t < length l.trans) (live : removed_at l Trans t ≡ none) where
  g : Graph
  g = now_of base l

  -- the pairs of the arena are those of the draft
  pub pairs_now : pairs_from l t (before_at l t) ≡ pairs_round (now_of base l) t
  pairs_now =
      let n = length (now_of base l).places in
      let before = along_trans base l Take t timed range live in
      let after = along_trans base l Give t timed range live in
      (λ i. flat_map (λ (x : ℕ × ℕ). pairs_with x.0 (after i)) (before i))
      ∙ first_of_each (takes (now_of base l) t) (λ p. pairs_with p (weighted n (gives (now_of base l) t))) (range_with_len 0 n)
      ∙ each (places_before (now_of base l) t)
    where
      each : (xs : List ℕ) → flat_map (λ p. pairs_with p (weighted (length (now_of base l).places) (gives (now_of base l) t))) xs ≡ flat_map (λ p. map {B = ℕ × ℕ} (λ q. (p, q)) (places_after (now_of base l) t)) xs
      each [] = refl
      each (x ∷ xs) = λ i. first_with (gives (now_of base l) t) x (range_with_len 0 (length (now_of base l).places)) i ++ each xs i

  -- what has a weight at a transition lives
  pub weight_live : (way : Way) (p : ℕ) → 0 < weight_in (now_of base l) way t p → (p < length l.places) × (removed_at l Place p ≡ none)
  weight_live way p some = elim (cases_lt p (length l.places)) [
    | inr past ↦ absurd (omega (arith, nothing way (get_or_past (table_places (length l.places) (length l.trans) (table_at l (length l.removals))) p None (omega (arith, length-map-range_with_len (table_place (length l.trans) (table_at l (length l.removals))) 0 (length l.places))))))
    | inl there ↦ (
      there,
      elim (cases_Bool (leb (length l.removals) (removed_at l Place p))) [
        | inl e ↦ timed.alive Place p (leb-true (length l.removals) (removed_at l Place p) e)
        | inr e ↦ absurd (omega (arith, weight_now base l way t p there range, ap (λ z. cond z (weight_at l (length l.removals) way t p) 0) e))
      ],
    )
  ]
    where
      nothing : (way : Way) → place_at (now_of base l) p ≡ None → weight_in (now_of base l) way t p ≡ 0
      nothing Take e = ap (taken_by t) e
      nothing Give e = ap (given_by t) e

  -- both places of a pair live
  pub pair_lives : All (λ (x : ℕ × ℕ). ((x.0 < length l.places) × (removed_at l Place x.0 ≡ none)) × ((x.1 < length l.places) × (removed_at l Place x.1 ≡ none))) (pairs_round (now_of base l) t)
  pair_lives =
      All-flat_map (λ p. (p < length l.places) × (removed_at l Place p ≡ none)) (λ (x : ℕ × ℕ). ((x.0 < length l.places) × (removed_at l Place x.0 ≡ none)) × ((x.1 < length l.places) × (removed_at l Place x.1 ≡ none)))
      (λ p. map (λ q. (p, q)) (places_after (now_of base l) t))
      (λ p lives.
      All-map (λ (x : ℕ × ℕ). ((x.0 < length l.places) × (removed_at l Place x.0 ≡ none)) × ((x.1 < length l.places) × (removed_at l Place x.1 ≡ none))) (λ q. (p, q)) (places_after (now_of base l) t)
      (All-weaker (λ q. ltb 0 (gives (now_of base l) t q) ≡ true) (λ q. ((p < length l.places) × (removed_at l Place p ≡ none)) × ((q < length l.places) × (removed_at l Place q ≡ none)))
      (λ q some. (lives, weight_live Give q (ltb-true 0 (gives (now_of base l) t q) some))) (places_after (now_of base l) t) (filter_passes (λ q. ltb 0 (gives (now_of base l) t q)) (range_with_len 0 (length (now_of base l).places)))))
      (places_before (now_of base l) t)
      (All-weaker (λ p. ltb 0 (takes (now_of base l) t p) ≡ true) (λ p. (p < length l.places) × (removed_at l Place p ≡ none))
      (λ p some. weight_live Take p (ltb-true 0 (takes (now_of base l) t p) some)) (places_before (now_of base l) t) (filter_passes (λ p. ltb 0 (takes (now_of base l) t p)) (range_with_len 0 (length (now_of base l).places))))

-- the weights at a live place
pub weight_of_live : (base : Base) (l : Layout) (way : Way) (u p : ℕ) → IsTimed l → u < length l.trans → p < length l.places → removed_at l Place p ≡ none → weight_in (now_of base l) way u p ≡ weight_at l (length l.removals) way u p
weight_of_live base l way u p timed inside there live = weight_now base l way u p there inside ∙ ap (λ z. cond z (weight_at l (length l.removals) way u p) 0) (alive l Place p timed live)

-- the place for a pair has as many arcs in the arena as in the draft
pub pair_arcs_now : (base : Base) (l : Layout) (t : ℕ) (x : ℕ × ℕ) → IsTimed l → x.0 < length l.places → removed_at l Place x.0 ≡ none → x.1 < length l.places → removed_at l Place x.1 ≡ none → pair_arcs l t x ≡ arcs_of_pair (now_of base l) t x
pair_arcs_now base l t x timed p_there p_live q_there q_live =
    let e : length l.trans ≡ length (now_of base l).trans = sym (length-map-range_with_len (draft_name l base.names (length l.removals)) 0 (length l.trans)) in
    let one = weighted_same (length l.trans) (length (now_of base l).trans) (merged_weight l t x.0 x.1 Take) (λ u. cond (eqb u t) 0 (takes (now_of base l) u x.0 + takes (now_of base l) u x.1)) e
    (λ u h. λ i. cond (eqb u t) 0 (sym (weight_of_live base l Take u x.0 timed h p_there p_live) i + sym (weight_of_live base l Take u x.1 timed h q_there q_live) i)) in
    let two = weighted_same (length l.trans) (length (now_of base l).trans) (merged_weight l t x.0 x.1 Give) (λ u. cond (eqb u t) 0 (gives (now_of base l) u x.0 + gives (now_of base l) u x.1)) e
    (λ u h. λ i. cond (eqb u t) 0 (sym (weight_of_live base l Give u x.0 timed h p_there p_live) i + sym (weight_of_live base l Give u x.1 timed h q_there q_live) i)) in
    λ i. length (one i) + length (two i)

-- a contraction, step by step
module _ (base : Base) (t : ℕ) (l l1 l2 l3 : Layout) (timed : IsTimed l) (laid : IsLaid l) (timed1 : IsTimed l1) (timed2 : IsTimed l2) (timed3 : IsTimed l3) (laid1 : IsLaid l1) (range : t < length l.trans) (live : removed_at l Trans t ≡ none)
    (can : CanMake t (pairs_from l t (before_at l t)) l) (made0 : IsMade t (pairs_from l t (before_at l t)) l l1) (without : ArePlacesRemoved t none l1 l2) (removed : IsRemoved Trans t l2 l3) where
  ps : List (ℕ × ℕ)
  ps = pairs_round (now_of base l) t

  made : IsMade t (pairs_round (now_of base l) t) l l1
  made = let P : List (ℕ × ℕ) → Type 0 = λ ps. IsMade t ps l l1 in subst P (pairs_now base l t timed range live) made0

  fits : CanMake t (pairs_round (now_of base l) t) l
  fits = let P : List (ℕ × ℕ) → Type 0 = λ ps. CanMake t ps l in subst P (pairs_now base l t timed range live) can

  long : length l3.removals ≡ length l2.removals + 1
  long = removals_length Trans t l2 l3 removed

  early : length l.removals ≤ length l2.removals
  early = omega (arith, ap length made.appended.removals, (without.fewer.later 0).longer)

  late : length l3.removals < none
  late = omega (arith, timed3.room, timed3.small)

  arcs : l3.cells ≡ l1.cells
  arcs = removed.cells ∙ without.fewer.cells

  trans_removed_at : (u : ℕ) → u ≢ t → removed_at l3 Trans u ≡ removed_at l Trans u
  trans_removed_at u ne = removed.others u ne ∙ without.fewer.trans u ∙ made.appended.same Trans u

  place_removed_at : (p : ℕ) → removed_at l3 Place p ≡ removed_at l2 Place p
  place_removed_at p = removed.far p

  -- what lives is the same, where the moments of removals are
  same_live : (b : End) (k : ℕ) → removed_at l3 b k ≡ removed_at l b k → leb (length l3.removals) (removed_at l3 b k) ≡ leb (length l.removals) (removed_at l b k)
  same_live b k e = elim (cases_lt (removed_at l b k) (length l.removals)) [
    | inl low ↦ lt-leb (length l3.removals) (removed_at l3 b k) (omega (arith, early, long)) ∙ sym (lt-leb (length l.removals) (removed_at l b k) low)
    | inr high ↦ le-leb (length l3.removals) (removed_at l3 b k) (omega (arith, timed.alive b k high, late)) ∙ sym (le-leb (length l.removals) (removed_at l b k) high)
  ]

  t_removed : leb (length l3.removals) (removed_at l3 Trans t) ≡ false
  t_removed = lt-leb (length l3.removals) (removed_at l3 Trans t) (omega (arith, removed.here, long))

  old_weight : (way : Way) (p u : ℕ) → p < length l.places → weight l3.cells way p u ≡ weight l.cells way p u
  old_weight way p u h = ap (λ xs. weight xs way p u) arcs ∙ extended_weight (length l.places) l l1 way p u made.appended.later h

  same_touch : (p : ℕ) → p < length l.places → touch l1 t p ≡ touch l t p
  same_touch p h = omega (arith, extended_weight (length l.places) l l1 Take p t made.appended.later h, extended_weight (length l.places) l l1 Give p t made.appended.later h)

  old_weights : (way : Way) (u p : ℕ) → u ≢ t → p < length l.places → weight_at l3 (length l3.removals) way u p ≡ weight_at l (length l.removals) way u p
  old_weights way u p ne h = (λ i. cond (same_live Trans u (trans_removed_at u ne) i) (old_weight way p u h i) 0)

  t_weights : (way : Way) (p : ℕ) → weight_at l3 (length l3.removals) way t p ≡ 0
  t_weights way p = ap (λ z. cond z (weight l3.cells way p t) 0) t_removed

  -- at a live place, what t has there
  touch_now : (p : ℕ) → p < length l.places → removed_at l Place p ≡ none → touch l t p ≡ takes (now_of base l) t p + gives (now_of base l) t p
  touch_now p there p_live = omega (
    arith,
    weight_of_live base l Take t p timed range there p_live,
    weight_of_live base l Give t p timed range there p_live,
    ap (λ z. cond z (weight l.cells Take p t) 0) (alive l Trans t timed live),
    ap (λ z. cond z (weight l.cells Give p t) 0) (alive l Trans t timed live),
  )

  many_places : length (now_of base l).places ≡ length l.places
  many_places = length-map-range_with_len (table_place (length l.trans) (table_at l (length l.removals))) 0 (length l.places)

  many_trans : length (now_of base l).trans ≡ length l.trans
  many_trans = length-map-range_with_len (draft_name l base.names (length l.removals)) 0 (length l.trans)

  new_removed_at : (k : ℕ) → k < length (pairs_round (now_of base l) t) → removed_at l3 Place (length l.places + k) ≡ none
  new_removed_at k h =
      let small : t < none = omega (arith, laid.sizes Trans) in
      let e = made.each k h in
      let zero : (way : Way) → weight l1.cells way (length l.places + k) t ≡ 0 = λ way. e.sums way t small live ∙ ap (λ z. cond z 0 (weight l.cells way (pair_at (pairs_round (now_of base l) t) k).0 t + weight l.cells way (pair_at (pairs_round (now_of base l) t) k).1 t)) (eq-eqb t t refl) in
      place_removed_at (length l.places + k) ∙ without.untouched (length l.places + k) (omega (arith, zero Take, zero Give)) ∙ made.appended.same Place (length l.places + k)
      ∙ ap (λ x. x.removed_at) (get_or_past l.places (length l.places + k) no_spot (omega arith))

  -- the weights of a new place
  new_weights : (way : Way) (k u : ℕ) → k < length (pairs_round (now_of base l) t) → u < length l.trans → weight_at l3 (length l3.removals) way u (length l.places + k) ≡ cond (eqb u t) 0 (weight_in (now_of base l) way u (pair_at (pairs_round (now_of base l) t) k).0 + weight_in (now_of base l) way u (pair_at (pairs_round (now_of base l) t) k).1)
  new_weights way k u h inside =
      let x = pair_at (pairs_round (now_of base l) t) k in
      let f = fits.fit k h in
      let first = weight_of_live base l way u x.0 timed inside f.first f.live_first in
      let second = weight_of_live base l way u x.1 timed inside f.second f.live_second in
      elim (cases_eq u t) [
        | inl e ↦ ap (λ u. weight_at l3 (length l3.removals) way u (length l.places + k)) e ∙ t_weights way (length l.places + k) ∙ sym (ap (λ z. cond z 0 (weight_in (now_of base l) way u x.0 + weight_in (now_of base l) way u x.1)) (eq-eqb u t e))
        | inr ne ↦
            ap (λ z. cond z (weight l3.cells way (length l.places + k) u) 0) (same_live Trans u (trans_removed_at u ne))
            ∙ there way k u h inside ne (leb (length l.removals) (removed_at l Trans u)) refl
            ∙ (λ i. sym first i + sym second i)
            ∙ sym (ap (λ z. cond z 0 (weight_in (now_of base l) way u x.0 + weight_in (now_of base l) way u x.1)) (ne_eqb u t ne))
      ]
    where
      there : (way : Way) (k u : ℕ) → k < length (pairs_round (now_of base l) t) → u < length l.trans → u ≢ t → (z : Bool) → leb (length l.removals) (removed_at l Trans u) ≡ z → cond (leb (length l.removals) (removed_at l Trans u)) (weight l3.cells way (length l.places + k) u) 0 ≡ weight_at l (length l.removals) way u (pair_at (pairs_round (now_of base l) t) k).0 + weight_at l (length l.removals) way u (pair_at (pairs_round (now_of base l) t) k).1
      there way k u h inside ne true e =
          let x = pair_at (pairs_round (now_of base l) t) k in
          rw e (
          ap (λ xs. weight xs way (length l.places + k) u) arcs
          ∙ (made.each k h).sums way u (omega (arith, laid.sizes Trans)) (timed.alive Trans u (leb-true (length l.removals) (removed_at l Trans u) e))
          ∙ ap (λ z. cond z 0 (weight l.cells way x.0 u + weight l.cells way x.1 u)) (ne_eqb u t ne))
      there way k u h inside ne false e = rw e refl

  shown : IsContractedTable (now_of base l) t (table_at l3 (length l3.removals))
  shown = record {
    removed = λ p h touched.
        let some : 0 < takes (now_of base l) t p + gives (now_of base l) t p = elim (or_cases (ltb 0 (takes (now_of base l) t p)) (ltb 0 (gives (now_of base l) t p)) touched) [
          | inl e ↦ omega (arith, ltb-true 0 (takes (now_of base l) t p) e)
          | inr e ↦ omega (arith, ltb-true 0 (gives (now_of base l) t p) e)
        ] in
        let lives : (p < length l.places) × (removed_at l Place p ≡ none) = elim (cases_lt 0 (takes (now_of base l) t p)) [
          | inl e ↦ weight_live base l t timed range live Take p e
          | inr e ↦ weight_live base l t timed range live Give p (omega arith)
        ] in
        lt-leb (length l3.removals) (removed_at l3 Place p) (omega (
          arith,
          place_removed_at p,
          long,
          without.removed p (omega (arith, lives.0, laid.sizes Place)) (omega (arith, lives.0, made.places)) (made.appended.same Place p ∙ lives.1) (omega (arith, same_touch p lives.0, touch_now p lives.0 lives.1)),
        ));
    kept = λ p h free.
        let there : p < length l.places = omega (arith, many_places) in
        let parts = or_parts (ltb 0 (takes (now_of base l) t p)) (ltb 0 (gives (now_of base l) t p)) free in
        ap (λ m. table_place m (table_at l3 (length l3.removals)) p) many_trans
        ∙ kept p there (ltb-false 0 (takes (now_of base l) t p) parts.0) (ltb-false 0 (gives (now_of base l) t p) parts.1)
        ∙ sym (get_or-map-range_with_len (table_place (length l.trans) (table_at l (length l.removals))) 0 (length l.places) p p None there (zero-add p));
    live = λ k h. ap (λ n. leb (length l3.removals) (removed_at l3 Place (n + k))) many_places ∙ le-leb (length l3.removals) (removed_at l3 Place (length l.places + k)) (omega (arith, new_removed_at k h, late));
    tokens = λ k p q h e.
        let f = fits.fit k h in
        let x = pair_at (pairs_round (now_of base l) t) k in
        let below : length l.places + k < length l1.places = omega (arith, made.places) in
        let P : ℕ × ℕ → Type 0 = λ y. (spot_at l3.places (length (now_of base l).places + k)).tokens ≡ tokens_at (now_of base l) y.0 + tokens_at (now_of base l) y.1 in
        subst P e (
        ap (λ n. (spot_at l3.places (n + k)).tokens) many_places
        ∙ removed.tokens (length l.places + k)
        ∙ (without.fewer.later (length l1.places)).tokens (length l.places + k) below
        ∙ (made.each k h).tokens
        ∙ (λ i. sym (tokens_now base l x.0 timed f.first f.live_first) i + sym (tokens_now base l x.1 timed f.second f.live_second) i));
    taken = λ k p q u h e inside.
        let P : ℕ × ℕ → Type 0 = λ y. weight_at l3 (length l3.removals) Take u (length (now_of base l).places + k) ≡ cond (eqb u t) 0 (takes (now_of base l) u y.0 + takes (now_of base l) u y.1) in
        subst P e (ap (λ n. weight_at l3 (length l3.removals) Take u (n + k)) many_places ∙ new_weights Take k u h (omega (arith, many_trans)));
    given = λ k p q u h e inside.
        let P : ℕ × ℕ → Type 0 = λ y. weight_at l3 (length l3.removals) Give u (length (now_of base l).places + k) ≡ cond (eqb u t) 0 (gives (now_of base l) u y.0 + gives (now_of base l) u y.1) in
        subst P e (ap (λ n. weight_at l3 (length l3.removals) Give u (n + k)) many_places ∙ new_weights Give k u h (omega (arith, many_trans)));
  }
    where
      kept : (p : ℕ) → p < length l.places → takes (now_of base l) t p ≤ 0 → gives (now_of base l) t p ≤ 0 → table_place (length l.trans) (table_at l3 (length l3.removals)) p ≡ table_place (length l.trans) (table_at l (length l.removals)) p
      kept p there no_take no_give = elim (cases_lt (removed_at l Place p) (length l.removals)) [
        | inl low ↦
            let was : removed_at l1 Place p ≢ none = λ e. absurd (omega (arith, made.appended.same Place p, e, timed.room, timed.small)) in
            let e : removed_at l3 Place p ≡ removed_at l Place p = place_removed_at p ∙ without.removed_before p was ∙ made.appended.same Place p in
            rw (same_live Place p e) (rw (lt-leb (length l.removals) (removed_at l Place p) low) refl)
        | inr high ↦
            let p_live = timed.alive Place p high in
            let zero : touch l1 t p ≡ 0 = omega (arith, same_touch p there, touch_now p there p_live) in
            let e : removed_at l3 Place p ≡ removed_at l Place p = place_removed_at p ∙ without.untouched p zero ∙ made.appended.same Place p in
            same_place (length l.trans) (table_at l3 (length l3.removals)) (table_at l (length l.removals)) p (same_live Place p e)
            (removed.tokens p ∙ (without.fewer.later (length l1.places)).tokens p (omega (arith, made.places)) ∙ made.appended.later.tokens p there)
            (λ u. same_weight Take p u there p_live (omega arith) (omega arith))
            (λ u. same_weight Give p u there p_live (omega arith) (omega arith))
      ]
        where
          same_weight : (way : Way) (p u : ℕ) → p < length l.places → removed_at l Place p ≡ none → takes (now_of base l) t p ≡ 0 → gives (now_of base l) t p ≡ 0 → weight_at l3 (length l3.removals) way u p ≡ weight_at l (length l.removals) way u p
          same_weight way p u there p_live no_take no_give = elim (cases_eq u t) [
            | inl e ↦ ap (λ u. weight_at l3 (length l3.removals) way u p) e ∙ t_weights way p ∙ sym (ap (λ u. weight_at l (length l.removals) way u p) e ∙ sym (weight_of_live base l way t p timed range there p_live) ∙ none_of way)
            | inr ne ↦ old_weights way u p ne there
          ]
            where
              none_of : (way : Way) → weight_in (now_of base l) way t p ≡ 0
              none_of Take = no_take
              none_of Give = no_give

  -- the draft is the contraction
  replaced : draft_at base l3 (length l3.removals) (length l3.places) ≡ contracted (now_of base l) t
  replaced =
      let places =
      ap (λ m. table_places m (length l3.trans) (table_at l3 (length l3.removals))) (removed.as_many Place ∙ without.fewer.places ∙ made.places)
      ∙ ap (λ m. table_places (length l.places + length (pairs_round (now_of base l) t)) m (table_at l3 (length l3.removals))) trans_count
      ∙ (λ i. table_places (sym many_places i + length (pairs_round (now_of base l) t)) (sym many_trans i) (table_at l3 (length l3.removals)))
      ∙ contracted_table (now_of base l) t (table_at l3 (length l3.removals)) shown in
      let trans =
      ap (λ m. map (draft_name l3 base.names (length l3.removals)) (range_with_len 0 m)) trans_count
      ∙ map_but (draft_name l base.names (length l.removals)) (draft_name l3 base.names (length l3.removals)) (length l.trans) t None
      (λ u r ne. ap (λ z. cond z (slice_get base.names u) None) (same_live Trans u (trans_removed_at u ne)))
      (ap (λ z. cond z (slice_get base.names t) None) t_removed) in
      λ i. record { places = places i; trans = trans i; known = base.known; first_places = base.first_places }
    where
      trans_count : length l3.trans ≡ length l.trans
      trans_count = removed.as_many Trans ∙ (without.fewer.later 0).trans ∙ made.appended.later.trans

  -- the edit as a whole
  later_all : IsExtended (length l.places) l l3
  later_all = extended_trans (length l.places) l l1 l3 made.appended.later (extended_trans (length l.places) l1 l2 l3 (without.fewer.later (length l.places)) (extended_removed (length l.places) Trans t l2 l3 timed2 removed))

  all_cells : HasAllCells (length l.removals) l3
  all_cells = record {
    cells = λ s from h. elim (cases_lt s (length l2.removals)) [
      | inl old ↦ ap (λ x. x.cells) (removal_old Trans t l2 l3 s removed old) ∙ without.fewer.all.cells s (omega (arith, ap length made.appended.removals)) old ∙ sym (ap length removed.cells)
      | inr new ↦ ap (λ s. (removal_at l3 s).cells) (let e : s ≡ length l2.removals = omega (arith, long) in e) ∙ ap (λ x. x.cells) (removal_new Trans t l2 l3 removed) ∙ sym (ap length removed.cells)
    ];
  }

  -- what is used of what is spare
  used_places : length l3.places ≡ length l.places + new_places (now_of base l) t
  used_places = removed.as_many Place ∙ without.fewer.places ∙ made.places

  used_arcs : length l3.cells ≤ length l.cells + new_places (now_of base l) t + new_arcs (now_of base l) t
  used_arcs = omega (
    arith,
    ap length arcs,
    made.cells,
    sum_same (pair_arcs l t) (arcs_of_pair (now_of base l) t) (pairs_round (now_of base l) t) (λ k h.
        let f = fits.fit k h in pair_arcs_now base l t (pair_at (pairs_round (now_of base l) t) k) timed f.first f.live_first f.second f.live_second),
  )

-- the pairs fit, and there is room for their places
can_replace : (base : Base) (l : Layout) (t : ℕ) → IsTimed l → t < length l.trans → removed_at l Trans t ≡ none → All (IsSmallPair (now_of base l)) (pairs_round (now_of base l) t) → IsArena l
    → length l.places + new_places (now_of base l) t ≤ l.rooms.places → length l.cells + new_places (now_of base l) t + new_arcs (now_of base l) t ≤ l.rooms.cells → CanMake t (pairs_from l t (before_at l t)) l
can_replace base l t timed range live small arena places cells =
    let P : List (ℕ × ℕ) → Type 0 = λ ps. CanMake t ps l in
    subst P (sym (pairs_now base l t timed range live)) (record {
      arena = arena;
      fit = λ k h.
          let x = pair_at (pairs_round (now_of base l) t) k in
          let lives = pair_lives base l t timed range live k (0, 0) h in
          let s = small k (0, 0) h in
          record {
            first = lives.0.0;
            second = lives.1.0;
            live_first = lives.0.1;
            live_second = lives.1.1;
            tokens = omega (arith, s.tokens, tokens_now base l x.0 timed lives.0.0 lives.0.1, tokens_now base l x.1 timed lives.1.0 lives.1.1);
            sums = λ way v inside v_live. omega (
              arith,
              sum way x v s (omega (arith, inside, length-map-range_with_len (draft_name l base.names (length l.removals)) 0 (length l.trans))),
              weight_of_live base l way v x.0 timed inside lives.0.0 lives.0.1,
              weight_of_live base l way v x.1 timed inside lives.1.0 lives.1.1,
              ap (λ z. cond z (weight l.cells way x.0 v) 0) (alive l Trans v timed v_live),
              ap (λ z. cond z (weight l.cells way x.1 v) 0) (alive l Trans v timed v_live),
            );
          };
      places = places;
      cells = omega (
        arith,
        cells,
        sum_same (pair_arcs l t) (arcs_of_pair (now_of base l) t) (pairs_round (now_of base l) t) (λ k h.
            let lives = pair_lives base l t timed range live k (0, 0) h in
            pair_arcs_now base l t (pair_at (pairs_round (now_of base l) t) k) timed lives.0.0 lives.0.1 lives.1.0 lives.1.1),
      );
    })
  where
    sum : (way : Way) (x : ℕ × ℕ) (v : ℕ) → IsSmallPair (now_of base l) x → v < length (now_of base l).trans → weight_in (now_of base l) way v x.0 + weight_in (now_of base l) way v x.1 < 2 ^ 32
    sum Take x v s inside = s.taken v inside
    sum Give x v s inside = s.given v inside

-- t lives, and there is room for what its contraction makes
pub record IsReplaceable (base : Base) (t : ℕ) (l : Layout) : Type 0 where
  pub range : t < length l.trans
  pub live : removed_at l Trans t ≡ none
  pub can : CanMake t (pairs_from l t (before_at l t)) l
  pub places : new_places (now_of base l) t ≤ l.rooms.places - length l.places
  pub arcs : new_arcs (now_of base l) t ≤ l.rooms.cells - length l.cells - (l.rooms.places - length l.places)

-- what an editor asks of a contraction, in its arena
pub may_replace : (base : Base) (t edits : ℕ) (l : Layout) (v : Editing) → now_of base l ≡ v.now → spare_of l edits ≡ v.spare → IsTimed l → IsLaid l → length l.cells + (l.rooms.places - length l.places) ≤ l.rooms.cells → IsDummy v.now t → new_places v.now t ≤ v.spare.places → new_arcs v.now t ≤ v.spare.arcs → All (IsSmallPair v.now) (pairs_round v.now t) → IsReplaceable base t l
may_replace base t edits l v now spare timed laid roomy dummy0 places0 arcs0 small0 =
    let D : Graph → Type 0 = λ g. IsDummy g t in
    let S : Graph → Type 0 = λ g. All (IsSmallPair g) (pairs_round g t) in
    let live = trans_lives base t l timed (subst D (sym now) dummy0).live in
    let places : new_places (now_of base l) t ≤ l.rooms.places - length l.places = omega (arith, places0, ap (λ g. new_places g t) now, ap (λ s. s.places) spare) in
    let arcs : new_arcs (now_of base l) t ≤ l.rooms.cells - length l.cells - (l.rooms.places - length l.places) = omega (arith, arcs0, ap (λ g. new_arcs g t) now, ap (λ s. s.arcs) spare) in
    record {
      range = live.0;
      live = live.1;
      can = can_replace base l t timed live.0 live.1 (subst S (sym now) small0) (record { laid = laid; timed = timed }) (omega (arith, places, laid.places)) (omega (arith, places, arcs, roomy));
      places = places;
      arcs = arcs;
    }

-- from l to l' the transition t was contracted
pub record IsReplaced (base : Base) (t : ℕ) (l l' : Layout) : Type 0 where
  pub later : IsExtended (length l.places) l l'
  pub all_cells : HasAllCells (length l.removals) l'
  pub now : draft_at base l' (length l'.removals) (length l'.places) ≡ contracted (now_of base l) t
  pub places : length l'.places ≡ length l.places + new_places (now_of base l) t
  pub cells : length l'.cells ≤ length l.cells + new_places (now_of base l) t + new_arcs (now_of base l) t

-- the draft after the steps of a contraction is the contracted one
pub is_replaced : (base : Base) (t : ℕ) (l l1 l2 l3 : Layout) → IsTimed l → IsLaid l → IsTimed l1 → IsTimed l2 → IsTimed l3 → IsLaid l1 → IsReplaceable base t l → IsMade t (pairs_from l t (before_at l t)) l l1 → ArePlacesRemoved t none l1 l2 → IsRemoved Trans t l2 l3 → IsReplaced base t l l3
is_replaced base t l l1 l2 l3 timed laid timed1 timed2 timed3 laid1 may made without removed = record {
  later = later_all base t l l1 l2 l3 timed laid timed1 timed2 timed3 laid1 may.range may.live may.can made without removed;
  all_cells = all_cells base t l l1 l2 l3 timed laid timed1 timed2 timed3 laid1 may.range may.live may.can made without removed;
  now = replaced base t l l1 l2 l3 timed laid timed1 timed2 timed3 laid1 may.range may.live may.can made without removed;
  places = used_places base t l l1 l2 l3 timed laid timed1 timed2 timed3 laid1 may.range may.live may.can made without removed;
  cells = used_arcs base t l l1 l2 l3 timed laid timed1 timed2 timed3 laid1 may.range may.live may.can made without removed;
}
