-- An edit changes nothing round a dummy that has no arc with a place at which the edit is.
use Rattle.std.proofs.Common.{◌≡◌, ◌≢◌, ◌<◌, ◌≤◌, ◌⊎◌, ◌+◌, ◌-◌, ◌*◌, ◌==◌, ℕ, zero, suc, true, cond, map, length, Option, None, is_some, get_or, if◌then◌else◌, refl, sym, ap, ◌∙◌, subst, inl, inr, arith, nat_lt}
use Rattle.std.proofs.lemmas.Bool.{cases_lt, cases_eq, lt-ltb, le-ltb, ne_eqb, or_left, or_right, or_from}
use Rattle.std.proofs.lemmas.List.{length-map, get_or_past, get_or_append_left, get_or-append-add, get_or-map as get_or-map_in}
use Rattle.std.proofs.lemmas.List.FromFn.{length-map-range_with_len, get_or-map-range_with_len}
use Rattle.stg_net.specs.Graph.{Graph, Place, IsTrans, IsDummy, place_at, place_numbers, has_signal_of, taken_by, given_by, tokens_in, takes, gives}
use Rattle.stg_net.specs.Contraction.{contracted, without_place, without_trans, remaining_place, pair_place, pairs_round, is_touched, each_other}
use Rattle.stg_laws.proofs.Origins.{takes-past, gives-past}
use Rattle.stg_laws.proofs.ContractedOrigins.{contracted-IsContraction, pairs_around}
use Rattle.stg_laws.proofs.PlaceDeletion.{place_at-other, place_at-gone}
use Rattle.stg_laws.proofs.TransDeletion.{without_trans-IsWithout, place_at-without_trans}
use Rattle.stg_arena.specs.WalkItems.{weighted}
use Rattle.stg_edit.specs.Replacing.{new_places}
use Rattle.stg_edit.specs.Walks.{taken_places, given_places}
use Rattle.stg_contract.specs.Neighbours.{HasArc, AreNeighbours}
use Rattle.stg_contract.proofs.Calm.{length-weighted_suc, taken_none, given_none}
use Rattle.stg_contract.proofs.DummyTests.{taken_below, given_below, live_below}
use Rattle.stg_contract.proofs.PlaceSums.{new_places-product}
use Rattle.stg_contract.proofs.SameRound.{AreSameRound}

-- t has an arc with p or none
pub cases_arc : (g : Graph) (t p : ℕ) → HasArc g t p ⊎ ((takes g t p ≡ 0) × (gives g t p ≡ 0))
cases_arc g t p = elim (cases_lt 0 (takes g t p)) [
  | inl l ↦ inl (inl l)
  | inr no_take ↦ elim (cases_lt 0 (gives g t p)) [
    | inl l ↦ inl (inr l)
    | inr no_give ↦ inr (omega (arith, no_take), omega (arith, no_give))
  ]
]

-- where both weights are 0 there is no arc
pub no_arc : (g : Graph) (t p : ℕ) → (takes g t p ≡ 0) × (gives g t p ≡ 0) → ¬ HasArc g t p
no_arc g t p none (inl l) = omega (arith, none.0, l)
no_arc g t p none (inr l) = omega (arith, none.1, l)

-- the place of an arc has a number
pub arc_below : (g : Graph) (t p : ℕ) → HasArc g t p → p < length g.places
arc_below g t p (inl l) = taken_below g t p l
arc_below g t p (inr l) = given_below g t p l

-- t and u are neighbours or not
pub cases_neighbours : (g : Graph) (t u : ℕ) → AreNeighbours g t u ⊎ (¬ AreNeighbours g t u)
cases_neighbours g t u = elim (below (length g.places)) [
  | inl n ↦ inl n
  | inr none ↦ inr (λ n. none n.place (arc_below g t n.place n.one_arc) n.one_arc n.other_arc)
]
  where
    below : (n : ℕ) → AreNeighbours g t u ⊎ ((p : ℕ) → p < n → HasArc g t p → HasArc g u p → ⊥)
    below zero = inr (λ p low a b. omega (arith, low))
    below (suc n) = elim (below n) [
      | inl found ↦ inl found
      | inr none ↦ elim (cases_arc g t n) [
        | inr free ↦ inr (λ p low a b. elim (cases_lt p n) [ inl l ↦ none p l a b | inr past ↦ no_arc g t n free (subst (HasArc g t) (let e : p ≡ n = omega (arith, low, past) in e) a) ])
        | inl a ↦ elim (cases_arc g u n) [
          | inl b ↦ inl (record { place = n; one_arc = a; other_arc = b })
          | inr free ↦ inr (λ p low a b. elim (cases_lt p n) [ inl l ↦ none p l a b | inr past ↦ no_arc g u n free (subst (HasArc g u) (let e : p ≡ n = omega (arith, low, past) in e) b) ])
        ]
      ]
    ]

-- what has no arc with the places of t, has none at a place where t has one
free_at : (g : Graph) (t u p : ℕ) → ¬ AreNeighbours g t u → HasArc g t p
    → (takes g u p ≡ 0) × (gives g u p ≡ 0)
free_at g t u p apart a = elim (cases_arc g u p) [
  | inl b ↦ absurd (apart (record { place = p; one_arc = a; other_arc = b }))
  | inr free ↦ free
]

-- and so has t at a place of the other one
free_there : (g : Graph) (t u p : ℕ) → ¬ AreNeighbours g t u → HasArc g u p
    → (takes g t p ≡ 0) × (gives g t p ≡ 0)
free_there g t u p apart a = elim (cases_arc g t p) [
  | inl b ↦ absurd (apart (record { place = p; one_arc = b; other_arc = a }))
  | inr free ↦ free
]

module _ (g : Graph) (p u : ℕ) (free : (takes g u p ≡ 0) × (gives g u p ≡ 0)) where
  -- the deletion of a place
  pub round-without_place : AreSameRound g (without_place g p) u
  round-without_place = record {
    taken = λ q. elim (cases_eq q p) [
      | inl e ↦ subst (λ r. takes (without_place g p) u r ≡ takes g u r) (sym e) (omega (arith, ap (taken_by u) (place_at-gone g p), free.0))
      | inr other ↦ ap (taken_by u) (place_at-other g p q other)
    ];
    given = λ q. elim (cases_eq q p) [
      | inl e ↦ subst (λ r. gives (without_place g p) u r ≡ gives g u r) (sym e) (omega (arith, ap (given_by u) (place_at-gone g p), free.1))
      | inr other ↦ ap (given_by u) (place_at-other g p q other)
    ];
    all_taken = λ v q a. ap (taken_by v) (stays q a);
    all_given = λ v q a. ap (given_by v) (stays q a);
    tokens = λ q a. ap tokens_in (stays q a);
    names = λ v q a b. refl;
    known = refl;
  }
    where
      stays : (q : ℕ) → HasArc g u q → place_at (without_place g p) q ≡ place_at g q
      stays q a = place_at-other g p q (λ e. no_arc g u p free (subst (HasArc g u) e a))

module _ (g : Graph) (t u : ℕ) (other : u ≢ t) (apart : ¬ AreNeighbours g t u) where
  not_it : (v p : ℕ) → HasArc g u p → HasArc g v p → v ≢ t
  not_it v p a b e = no_arc g t p (free_there g t u p apart a) (subst (λ w. HasArc g w p) e b)

  -- the deletion of a transition
  pub round-without_trans : AreSameRound g (without_trans g t) u
  round-without_trans = let w = without_trans-IsWithout g t in record {
    taken = λ p. w.taken u p other;
    given = λ p. w.given u p other;
    all_taken = λ v p a. elim (cases_eq v t) [
      | inl e ↦ subst (λ x. takes (without_trans g t) x p ≡ takes g x p) (sym e) (omega (arith, ap (taken_by t) (place_at-without_trans g t p), taken_none t (place_at g p), (free_there g t u p apart a).0))
      | inr differs ↦ w.taken v p differs
    ];
    all_given = λ v p a. elim (cases_eq v t) [
      | inl e ↦ subst (λ x. gives (without_trans g t) x p ≡ gives g x p) (sym e) (omega (arith, ap (given_by t) (place_at-without_trans g t p), given_none t (place_at g p), (free_there g t u p apart a).1))
      | inr differs ↦ w.given v p differs
    ];
    tokens = λ p a. w.tokens p;
    names = λ v p a b. w.names.names v (not_it v p a b);
    known = refl;
  }

-- a place without an arc of t stays at its contraction
pub place_at-kept : (g : Graph) (t p : ℕ) → p < length g.places
    → (takes g t p ≡ 0) × (gives g t p ≡ 0) → place_at (contracted g t) p ≡ place_at g p
place_at-kept g t p below free =
    get_or_append_left (map (remaining_place g t) (place_numbers g)) (map (pair_place g t) (pairs_round g t)) None p (omega (arith, below, length-map-range_with_len (remaining_place g t) 0 (length g.places)))
    ∙ get_or-map-range_with_len (remaining_place g t) 0 (length g.places) p p None below (omega arith)
    ∙ ap (λ b. cond b None (place_at g p)) (or_from (nat_lt 0 (takes g t p)) (nat_lt 0 (gives g t p)) (le-ltb 0 (takes g t p) (omega (arith, free.0))) (le-ltb 0 (gives g t p) (omega (arith, free.1))))

-- and one with an arc goes
pub place_at-touched : (g : Graph) (t p : ℕ) → p < length g.places → is_touched g t p ≡ true
    → place_at (contracted g t) p ≡ None
place_at-touched g t p below touched =
    get_or_append_left (map (remaining_place g t) (place_numbers g)) (map (pair_place g t) (pairs_round g t)) None p (omega (arith, below, length-map-range_with_len (remaining_place g t) 0 (length g.places)))
    ∙ get_or-map-range_with_len (remaining_place g t) 0 (length g.places) p p None below (omega arith)
    ∙ ap (λ b. cond b None (place_at g p)) touched

-- what is read of a place is the same after the contraction, where the places that go and the new
-- ones show nothing of it
read_same : (g : Graph) (t : ℕ) (f : Option Place → ℕ) → f None ≡ 0
    → ((p : ℕ) → HasArc g t p → f (place_at g p) ≡ 0)
    → ((p q : ℕ) → HasArc g t p → HasArc g t q → f (pair_place g t (p, q)) ≡ 0) → (r : ℕ)
    → f (place_at (contracted g t) r) ≡ f (place_at g r)
read_same g t f none gone new r = elim (cases_lt r (length g.places)) [
  | inl below ↦ elim (cases_arc g t r) [
    | inr free ↦ ap f (place_at-kept g t r below free)
    | inl a ↦ ap f (place_at-touched g t r below (touched a)) ∙ none ∙ sym (gone r a)
  ]
  | inr past ↦ at_new past ∙ sym (ap f (get_or_past g.places r None past) ∙ none)
]
  where
    touched : HasArc g t r → is_touched g t r ≡ true
    touched (inl l) = or_left (nat_lt 0 (takes g t r)) (nat_lt 0 (gives g t r)) (lt-ltb 0 (takes g t r) l)
    touched (inr l) = or_right (nat_lt 0 (takes g t r)) (nat_lt 0 (gives g t r)) (lt-ltb 0 (gives g t r) l)

    at_new : length g.places ≤ r → f (place_at (contracted g t) r) ≡ 0
    at_new past =
        let old = map (remaining_place g t) (place_numbers g) in
        let made = map (pair_place g t) (pairs_round g t) in
        let long : length old ≡ length g.places = length-map-range_with_len (remaining_place g t) 0 (length g.places) in
        let i = r - length g.places in
        let here : r ≡ length old + i = omega (arith, long, past) in
        let is : place_at (contracted g t) r ≡ get_or made i None = ap (place_at (contracted g t)) here ∙ get_or-append-add old made i None in
        elim (cases_lt i (length (pairs_round g t))) [
          | inr beyond ↦ ap f (is ∙ get_or_past made i None (omega (arith, beyond, length-map (pairs_round g t) (pair_place g t)))) ∙ none
          | inl low ↦
              let x = get_or (pairs_round g t) i (0, 0) in
              let around = pairs_around g t i (0, 0) low in
              ap f (is ∙ get_or-map_in (pair_place g t) (pairs_round g t) i (0, 0) None low) ∙ new x.0 x.1 (inl around.0) (inr around.1)
        ]

-- a number of another transition
each_other-at : (g : Graph) (t u : ℕ) (weight : ℕ → ℕ) → IsTrans g u → u ≢ t
    → get_or (each_other g t weight) u 0 ≡ weight u
each_other-at g t u weight live other =
    get_or-map-range_with_len (λ v. if v == t then 0 else weight v) 0 (length g.trans) u u 0 (live_below g u live) (omega arith)
    ∙ ap (λ b. cond b 0 (weight u)) (ne_eqb u t other)

module _ (g : Graph) (t u : ℕ) (live : IsTrans g u) (other : u ≢ t) (apart : ¬ AreNeighbours g t u) where
  -- the contraction of a transition
  pub round-contracted : AreSameRound g (contracted g t) u
  round-contracted = record {
    taken = read_same g t (taken_by u) refl (λ p a. (free_at g t u p apart a).0) (λ p q a b. each_other-at g t u (λ v. takes g v p + takes g v q) live other ∙ omega (arith, (free_at g t u p apart a).0, (free_at g t u q apart b).0));
    given = read_same g t (given_by u) refl (λ p a. (free_at g t u p apart a).1) (λ p q a b. each_other-at g t u (λ v. gives g v p + gives g v q) live other ∙ omega (arith, (free_at g t u p apart a).1, (free_at g t u q apart b).1));
    all_taken = λ v p a. ap (taken_by v) (stays p a);
    all_given = λ v p a. ap (given_by v) (stays p a);
    tokens = λ p a. ap tokens_in (stays p a);
    names = λ v p a b. (contracted-IsContraction g t).names v (not_it g t u other apart v p a b);
    known = refl;
  }
    where
      stays : (p : ℕ) → HasArc g u p → place_at (contracted g t) p ≡ place_at g p
      stays p a = place_at-kept g t p (arc_below g u p a) (free_there g t u p apart a)

-- a weight in more numbers, where the further ones have none
weighted_past : (k n m : ℕ) (w : ℕ → ℕ) → n + k ≡ m → ((p : ℕ) → n ≤ p → w p ≡ 0)
    → length (weighted m w) ≡ length (weighted n w)
weighted_past zero n m w e none = ap (λ k. length (weighted k w)) (let f : m ≡ n = omega (arith, e) in f)
weighted_past (suc k) n m w e none =
    ap (λ j. length (weighted j w)) (let f : m ≡ suc (n + k) = omega (arith, e) in f)
    ∙ omega (arith, length-weighted_suc (n + k) w, none (n + k) (omega arith), weighted_past k n (n + k) w refl none)

-- the same weights weigh as many
weighted_alike : (n m : ℕ) (w v : ℕ → ℕ) → n ≤ m → ((p : ℕ) → v p ≡ w p)
    → ((p : ℕ) → n ≤ p → w p ≡ 0) → length (weighted m v) ≡ length (weighted n w)
weighted_alike n m w v le same none =
    (λ i. length (weighted m (λ p. same p i))) ∙ weighted_past (m - n) n m w (omega (arith, le)) none

-- so the contraction of what is the same round makes as many places
pub new_places-round : (g h : Graph) (u : ℕ) → length g.places ≤ length h.places → AreSameRound g h u
    → new_places h u ≡ new_places g u
new_places-round g h u le same =
    let taken = weighted_alike (length g.places) (length h.places) (takes g u) (takes h u) le same.taken (λ p. takes-past g u p) in
    let given = weighted_alike (length g.places) (length h.places) (gives g u) (gives h u) le same.given (λ p. gives-past g u p) in
    let product : length (taken_places h u) * length (given_places h u) ≡ length (taken_places g u) * length (given_places g u) = λ i. taken i * given i in
    omega (arith, new_places-product h u, new_places-product g u, product)

-- a dummy of the draft after an edit was one before
pub dummy-without_trans : (g : Graph) (t u : ℕ) → IsDummy (without_trans g t) u → IsDummy g u × (u ≢ t)
dummy-without_trans g t u d =
    let w = without_trans-IsWithout g t in
    let other = w.gone u d.live in
    (record { live = sym (ap is_some (w.names.names u other)) ∙ d.live; hidden = sym (ap (has_signal_of g.known) (w.names.names u other)) ∙ d.hidden }, other)

pub dummy-contracted : (g : Graph) (t u : ℕ) → IsDummy (contracted g t) u → IsDummy g u × (u ≢ t)
dummy-contracted g t u d =
    let k = contracted-IsContraction g t in
    let other = k.gone u d.live in
    (record { live = sym (ap is_some (k.names u other)) ∙ d.live; hidden = sym (ap (has_signal_of g.known) (k.names u other)) ∙ d.hidden }, other)

pub dummy-without_place : (g : Graph) (p u : ℕ) → IsDummy (without_place g p) u → IsDummy g u
dummy-without_place g p u d = record { live = d.live; hidden = d.hidden }
