-- The contracted graph is what `IsContraction` says: the origin of each of its places.
use Rattle.std.proofs.Common.{◌≡◌, ◌≢◌, ℕ, ◌+◌, ◌<◌, List, ◌++◌, map, length, get_or, set, true, false, cond, nat_lt, Option, None, Contains, All, refl, sym, ◌∙◌, ap, ap₂, inl, inr, arith}
use Rattle.std.proofs.lemmas.Bool.{cases_lt, ltb-true, ltb-false, lt-ltb, or_parts, cond_both, ne_eqb, false≢true}
use Rattle.std.proofs.lemmas.List.{map-append, get_or_past, get_or_append_left, get_or-append-add, get_or-set_other, get_or-set_same, set_past, get_or-map as get_or-map_in}
use Rattle.std.proofs.lemmas.List.Elements.{All-append, All-map, filter_passes}
use Rattle.std.proofs.lemmas.List.FromFn.{length-map-range_with_len, get_or-map-range_with_len}
use Rattle.std.proofs.Math.ListN.{get_or-map}
use Rattle.stg_net.specs.Graph.{Graph, Place, IsTrans, place_at, place_numbers, tokens_in, taken_by, given_by, tokens_at, takes, gives}
use Rattle.stg_net.specs.Contraction.{places_before, places_after, pairs_round, each_other, pair_place, is_touched, remaining_place, contracted}
use Rattle.stg_net.proofs.Members.{Contains-range}
use Rattle.stg_laws.proofs.Origins.{Origin, NoPlace, OldPlace, PairPlace, sum_over, IsOriginAt, IsContraction, takes-past, gives-past}
use Rattle.stg_laws.proofs.ListMembers.{map-map, Contains-map, Contains-filter, Contains-flat_map, All-flat_map}

module _ (g : Graph) (t : ℕ) where
  -- the origin of the place that keeps its number
  abbrev pub old_origin : ℕ → Origin
  old_origin p = cond (is_touched g t p) NoPlace (OldPlace p)

  -- the origin of the place of a pair
  abbrev pub pair_origin : ℕ × ℕ → Origin
  pair_origin (p, q) = PairPlace p q

  -- the origins of all places of the contracted graph
  abbrev pub origins : List Origin
  origins = map old_origin (place_numbers g) ++ map pair_origin (pairs_round g t)

  -- the place of the contracted graph that has this origin
  abbrev pub place_from : Origin → Option Place
  place_from NoPlace = None
  place_from (OldPlace p) = place_at g p
  place_from (PairPlace p q) = pair_place g t (p, q)

  -- the origin of the place of this number
  abbrev pub origin_of : ℕ → Origin
  origin_of r = get_or origins r NoPlace

  remaining_place-origin : (p : ℕ) → remaining_place g t p ≡ place_from (old_origin p)
  remaining_place-origin p =
      elim (is_touched g t p) as (λ b. cond b None (place_at g p) ≡ place_from (cond b NoPlace (OldPlace p))) [ true ↦ refl | false ↦ refl ]

  places-origins : (contracted g t).places ≡ map place_from origins
  places-origins =
      ap₂ (λ xs ys. xs ++ ys) (map-map (remaining_place g t) place_from old_origin remaining_place-origin (place_numbers g))
      (map-map (pair_place g t) place_from pair_origin (λ (p, q). refl) (pairs_round g t))
      ∙ sym (map-append place_from (map old_origin (place_numbers g)) (map pair_origin (pairs_round g t)))

  -- each place of the contracted graph is that of its origin
  pub place_at-contracted : (r : ℕ) → place_at (contracted g t) r ≡ place_from (origin_of r)
  place_at-contracted r =
      ap (λ xs. get_or xs r None) places-origins ∙ get_or-map place_from origins r NoPlace

  live_below : (u : ℕ) → IsTrans g u → u < length g.trans
  live_below u live = elim (cases_lt u (length g.trans)) [
    | inl l ↦ l
    | inr past ↦ absurd (false≢true (rw (get_or_past g.trans u None past) at live))
  ]

  each_other-at : (u : ℕ) (weight : ℕ → ℕ) → IsTrans g u → u ≢ t
      → get_or (each_other g t weight) u 0 ≡ weight u
  each_other-at u weight live other =
      get_or-map-range_with_len _ 0 (length g.trans) u u 0 (live_below u live) (omega arith) ∙ rw (ne_eqb u t other)

  tokens-from : (o : Origin) → tokens_in (place_from o) ≡ sum_over o (tokens_at g)
  tokens-from NoPlace = refl
  tokens-from (OldPlace p) = refl
  tokens-from (PairPlace p q) = refl

  taken-from : (u : ℕ) (o : Origin) → IsTrans g u → u ≢ t
      → taken_by u (place_from o) ≡ sum_over o (takes g u)
  taken-from u NoPlace live other = refl
  taken-from u (OldPlace p) live other = refl
  taken-from u (PairPlace p q) live other = each_other-at u (λ u. takes g u p + takes g u q) live other

  given-from : (u : ℕ) (o : Origin) → IsTrans g u → u ≢ t
      → given_by u (place_from o) ≡ sum_over o (gives g u)
  given-from u NoPlace live other = refl
  given-from u (OldPlace p) live other = refl
  given-from u (PairPlace p q) live other = each_other-at u (λ u. gives g u p + gives g u q) live other

  old_around : (p : ℕ) → IsOriginAt g t (old_origin p)
  old_around p = cond_both (is_touched g t p) NoPlace (OldPlace p) (IsOriginAt g t) (λ _. tt)
      (λ e. let parts = or_parts (nat_lt 0 (takes g t p)) (nat_lt 0 (gives g t p)) e in
      (omega (arith, ltb-false 0 (takes g t p) parts.0), omega (arith, ltb-false 0 (gives g t p) parts.1)))

  -- each pair has a place before t and one after it
  pub pairs_around : All (λ pq. IsOriginAt g t (pair_origin pq)) (pairs_round g t)
  pairs_around =
      All-flat_map (λ p. nat_lt 0 (takes g t p) ≡ true) (λ pq. IsOriginAt g t (pair_origin pq)) (λ p. map (λ q. (p, q)) (places_after g t))
      (λ p a. All-map (λ pq. IsOriginAt g t (pair_origin pq)) (λ q. (p, q)) (places_after g t)
      (λ k d h. (ltb-true 0 (takes g t p) a, ltb-true 0 _ (filter_passes (λ q. nat_lt 0 (gives g t q)) (place_numbers g) k d h))))
      (places_before g t) (filter_passes (λ p. nat_lt 0 (takes g t p)) (place_numbers g))

  origins_around : All (IsOriginAt g t) origins
  origins_around =
      All-append (IsOriginAt g t) (map old_origin (place_numbers g)) (map pair_origin (pairs_round g t))
      (All-map (IsOriginAt g t) old_origin (place_numbers g) (λ k d h. old_around _))
      (All-map (IsOriginAt g t) pair_origin (pairs_round g t) pairs_around)

  origin_around : (r : ℕ) → IsOriginAt g t (origin_of r)
  origin_around r = elim (cases_lt r (length origins)) [
    | inl l ↦ origins_around r NoPlace l
    | inr past ↦ rw (get_or_past origins r NoPlace past) tt
  ]

  old-origin_of : (p : ℕ) → p < length g.places → takes g t p ≡ 0 → gives g t p ≡ 0
      → origin_of p ≡ OldPlace p
  old-origin_of p below taken given =
      get_or_append_left (map old_origin (place_numbers g)) (map pair_origin (pairs_round g t)) NoPlace p (rw (length-map-range_with_len old_origin 0 (length g.places)) below)
      ∙ get_or-map-range_with_len old_origin 0 (length g.places) p p NoPlace below (omega arith)
      ∙ rw (taken, given)

  taken_below : (p : ℕ) → 0 < takes g t p → p < length g.places
  taken_below p there =
      elim (cases_lt p (length g.places)) [ inl l ↦ l | inr past ↦ absurd (omega (arith, takes-past g t p past)) ]

  given_below : (p : ℕ) → 0 < gives g t p → p < length g.places
  given_below p there =
      elim (cases_lt p (length g.places)) [ inl l ↦ l | inr past ↦ absurd (omega (arith, gives-past g t p past)) ]

  pair_there : (p q : ℕ) → 0 < takes g t p → 0 < gives g t q → Contains (pairs_round g t) (p, q)
  pair_there p q before after =
      Contains-flat_map (λ p. map (λ q. (p, q)) (places_after g t)) (places_before g t) p (p, q)
      (Contains-filter (λ p. nat_lt 0 (takes g t p)) (place_numbers g) p (lt-ltb 0 (takes g t p) before) (Contains-range (length g.places) p (taken_below p before)))
      (Contains-map (λ q. (p, q)) (places_after g t) q
      (Contains-filter (λ q. nat_lt 0 (gives g t q)) (place_numbers g) q (lt-ltb 0 (gives g t q) after) (Contains-range (length g.places) q (given_below q after))))

  pair-origin_of : (p q : ℕ) → Contains (pairs_round g t) (p, q)
      → (r : ℕ) × (origin_of r ≡ PairPlace p q)
  pair-origin_of p q c = (
    length (map old_origin (place_numbers g)) + c.0,
    get_or-append-add (map old_origin (place_numbers g)) (map pair_origin (pairs_round g t)) c.0 NoPlace
        ∙ get_or-map_in pair_origin (pairs_round g t) c.0 (p, q) NoPlace c.1
        ∙ ap pair_origin c.2,
  )

  -- the contracted transition has gone
  not_itself : (u : ℕ) → IsTrans (contracted g t) u → u ≢ t
  not_itself u live e =
      false≢true (rw gone_there at (let h : IsTrans (contracted g t) t = rw e at live in h))
    where
      gone_there : get_or (set g.trans t None) t None ≡ None
      gone_there = elim (cases_lt t (length g.trans)) [
        | inl l ↦ get_or-set_same g.trans t None None l
        | inr past ↦ rw (set_past g.trans t None past) (get_or_past g.trans t None past)
      ]

  -- the contracted graph with the origins of its places
  pub contracted-IsContraction : IsContraction g (contracted g t) t
  contracted-IsContraction = record {
    origin = origin_of;
    around = origin_around;
    old = λ p below taken given. (p, old-origin_of p below taken given);
    pair = λ p q before after. pair-origin_of p q (pair_there p q before after);
    tokens = λ r. ap tokens_in (place_at-contracted r) ∙ tokens-from (origin_of r);
    taken = λ u r live other. ap (taken_by u) (place_at-contracted r) ∙ taken-from u (origin_of r) live other;
    given = λ u r live other. ap (given_by u) (place_at-contracted r) ∙ given-from u (origin_of r) live other;
    names = λ u other. get_or-set_other g.trans t u None None other;
    gone = not_itself;
    known = refl;
  }

  -- each place of the contracted graph is that of the origin that is told
  pub place_at-origin : (r : ℕ)
      → place_at (contracted g t) r ≡ place_from (contracted-IsContraction.origin r)
  unfolding contracted-IsContraction
  place_at-origin r = place_at-contracted r
