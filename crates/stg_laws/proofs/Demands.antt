-- A demand asks for tokens of each place. Where the image of a marking covers that of a demand, t can be
-- fired some times, and then the demand is met.
use Rattle.std.proofs.Common.{◌≡◌, ℕ, ◌+◌, ◌*◌, ◌-◌, ◌<◌, ◌≤◌, ◌⊎◌, length, inl, inr, arith}
use Rattle.std.proofs.lemmas.Bool.{cases_lt}
use Rattle.stg_net.specs.Graph.{Graph, takes, gives}
use Rattle.stg_laws.specs.Secure.{IsPureOrdinary}
use Rattle.stg_laws.proofs.Extremes.{greatest_or_none, least_or_none, upper_bound}
use Rattle.stg_laws.proofs.Origins.{takes-past, gives-past}

-- a product with a weight of 0 or 1
scaled : (k a : ℕ) → a ≤ 1 → ((a ≡ 0) × (k * a ≡ 0)) ⊎ ((a ≡ 1) × (k * a ≡ k))
scaled k a h =
    elim (cases_lt 0 a) [ inl l ↦ inr (one k a (omega arith)) | inr g ↦ inl (none k a (omega arith)) ]
  where
    one : (k a : ℕ) → a ≡ 1 → (a ≡ 1) × (k * a ≡ k)
    one k a e = (e, rw e (omega arith))

    none : (k a : ℕ) → a ≡ 0 → (a ≡ 0) × (k * a ≡ 0)
    none k a e = (e, rw e (omega arith))

module _ (g : Graph) (t : ℕ) where
  -- the image of m covers the image of the demand
  pub record Covers (demand m : ℕ → ℕ) : Type 0 where
    pub old : (p : ℕ) → p < length g.places → takes g t p ≡ 0 → gives g t p ≡ 0 → demand p ≤ m p
    pub pair : (p q : ℕ) → 0 < takes g t p → 0 < gives g t q → demand p + demand q ≤ m p + m q

  -- t can be fired so many times from m, and then the demand is met
  pub record Meets (demand m : ℕ → ℕ) : Type 0 where
    pub times : ℕ
    pub can : (p : ℕ) → times * takes g t p ≤ m p
    pub meets : (p : ℕ) → p < length g.places
        → demand p + times * takes g t p ≤ m p + times * gives g t p

  -- and a place to which t gives then holds no more than is asked of it
  pub record MeetsExactly (demand m : ℕ → ℕ) : Type 0 where
    pub met : Meets demand m
    pub exact : ℕ
    pub there : 0 < gives g t exact
    pub no_more : m exact + met.times * gives g t exact ≤ demand exact

  -- fired as often as it can be, t leaves a place empty from which it takes
  pub record Drains (m : ℕ → ℕ) : Type 0 where
    pub times : ℕ
    pub can : (p : ℕ) → times * takes g t p ≤ m p
    pub dry : ℕ
    pub there : 0 < takes g t dry
    pub is_dry : m dry ≡ times * takes g t dry

module _ (g : Graph) (t : ℕ) (pure_ordinary : IsPureOrdinary g t) where
  takes_times : (k p : ℕ)
      → ((takes g t p ≡ 0) × (k * takes g t p ≡ 0)) ⊎ ((takes g t p ≡ 1) × (k * takes g t p ≡ k))
  takes_times k p = scaled k (takes g t p) (pure_ordinary.takes_one p)

  gives_times : (k p : ℕ)
      → ((gives g t p ≡ 0) × (k * gives g t p ≡ 0)) ⊎ ((gives g t p ≡ 1) × (k * gives g t p ≡ k))
  gives_times k p = scaled k (gives g t p) (pure_ordinary.gives_one p)

  -- a demand that asks nothing of the places before t, one of which is empty, is met at once
  pub meet_empty_before : (demand m : ℕ → ℕ) → Covers g t demand m
      → ((p : ℕ) → 0 < takes g t p → demand p ≡ 0) → (e : ℕ) → 0 < takes g t e → m e ≡ 0
      → Meets g t demand m
  meet_empty_before demand m covers none e there empty = record {
    times = 0;
    can = λ p. omega arith;
    meets = λ p below. elim (cases_lt 0 (takes g t p)) [
      | inl before ↦ omega (arith, none p before)
      | inr aside ↦ elim (cases_lt 0 (gives g t p)) [
        | inl after ↦ omega (arith, covers.pair e p there after)
        | inr away ↦ omega (arith, covers.old p below (omega arith) (omega arith))
      ]
    ];
  }

  -- where t takes from nothing, it is fired as often as any place asks
  pub meet_free : (demand m : ℕ → ℕ) → Covers g t demand m → ((p : ℕ) → takes g t p ≡ 0)
      → Meets g t demand m
  meet_free demand m covers free =
      let b = upper_bound demand (length g.places) in record {
        times = b.0;
        can = λ p. omega (arith, takes_times b.0 p, free p);
        meets = λ p below. elim (cases_lt 0 (gives g t p)) [
          | inl after ↦ omega (arith, takes_times b.0 p, gives_times b.0 p, free p, b.1 p below)
          | inr away ↦ omega (arith, takes_times b.0 p, free p, covers.old p below (free p) (omega arith))
        ];
      }

  -- where a place after t is empty, t is fired as often as the neediest of these places asks
  pub meet_empty_after : (demand m : ℕ → ℕ) → Covers g t demand m → (e : ℕ) → 0 < gives g t e
      → m e ≡ 0 → MeetsExactly g t demand m
  meet_empty_after demand m covers e there empty = elim (greatest_or_none (gives g t) (λ q. demand q - m q) (length g.places)) [
    | inr all ↦ absurd (no_place all)
    | inl b ↦
        let k = demand b.place - m b.place in
        let met : Meets g t demand m = record {
          times = k;
          can = λ p. elim (cases_lt 0 (takes g t p)) [
            | inl before ↦ omega (arith, takes_times k p, covers.pair p b.place before b.there)
            | inr aside ↦ omega (arith, takes_times k p)
          ];
          meets = λ p below. elim (cases_lt 0 (takes g t p)) [
            | inl before ↦ omega (
              arith,
              takes_times k p,
              covers.pair p b.place before b.there,
              covers.pair p e before there,
            )
            | inr aside ↦ elim (cases_lt 0 (gives g t p)) [
              | inl after ↦ omega (arith, takes_times k p, gives_times k p, b.extreme p below after)
              | inr away ↦ omega (arith, takes_times k p, covers.old p below (omega arith) (omega arith))
            ]
          ];
        } in
        elim (cases_lt 0 k) [
          | inl some ↦ record { met = met; exact = b.place; there = b.there; no_more = omega (arith, gives_times k b.place) }
          | inr none ↦ record { met = met; exact = e; there = there; no_more = omega (arith, gives_times k e) }
        ]
  ]
    where
      no_place : ((j : ℕ) → j < length g.places → gives g t j ≡ 0) → ⊥
      no_place all =
          elim (cases_lt e (length g.places)) [ inl below ↦ omega (arith, all e below) | inr past ↦ omega (arith, gives-past g t e past) ]

  -- t can be fired until a place before it is empty, or takes from nothing
  pub drain : (m : ℕ → ℕ) → Drains g t m ⊎ ((p : ℕ) → takes g t p ≡ 0)
  drain m = elim (least_or_none (takes g t) m (length g.places)) [
    | inl b ↦ inl (record {
      times = m b.place;
      can = λ p. elim (cases_lt 0 (takes g t p)) [
        | inl before ↦ elim (cases_lt p (length g.places)) [
          | inl below ↦ omega (arith, takes_times (m b.place) p, b.extreme p below before)
          | inr past ↦ omega (arith, takes-past g t p past)
        ]
        | inr aside ↦ omega (arith, takes_times (m b.place) p)
      ];
      dry = b.place;
      there = b.there;
      is_dry = let there : 0 < takes g t b.place = b.there in omega (arith, takes_times (m b.place) b.place);
    })
    | inr all ↦ inr (λ p. elim (cases_lt p (length g.places)) [ inl below ↦ all p below | inr past ↦ takes-past g t p past ])
  ]
