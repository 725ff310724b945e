-- The steps of a search for the cheapest candidate of a watch.
use Rattle.std.proofs.Common.{◌≡◌, ◌≢◌, ◌<◌, ◌≤◌, ◌⊎◌, ◌++◌, ◌∷◌, [], ℕ, zero, suc, cond, eq-eqb, map, true, List, Option, Some, None, All, Contains, is_some, length, get_or, set, refl, sym, ap, ◌∙◌, subst, inl, inr, arith}
use Rattle.std.specs.List.Sorted.{IsPermutation}
use Rattle.std.proofs.lemmas.Bool.{cases_eq, cases_lt, ne_eqb, false≢true}
use Rattle.std.proofs.lemmas.List.{get_or-set_same, get_or-set_other, length-set}
use Rattle.std.proofs.lemmas.List.Elements.{All-nil, All-cons, All-head, All-tail, All-append, All-map, Contains-append_left, Contains-append_right}
use Rattle.std.proofs.lemmas.List.Sorted.{All-permutation, Contains-permutation, IsPermutation-map, IsPermutation-sym, IsPermutation-trans, IsPermutation-middle, IsPermutation-append_left, IsPermutation-append_right}
use Rattle.stg_net.specs.Graph.{Graph, IsDummy}
use Rattle.stg_laws.proofs.ListMembers.{Contains-map}
use Rattle.stg_edit.specs.Replacing.{new_places}
use Rattle.stg_contract.specs.Neighbours.{MayContract}
use Rattle.stg_contract.specs.Candidates.{IsCandidate, IsCheapest}
use Rattle.stg_contract.specs.WatchedDummies.{least_places, IsWatchedDummy, WatchesCandidates, AreLeastPlaces, DropsHopeless}
use Rattle.stg_contract.specs.inner.Queues.{Queued, ComesFirst}
use Rattle.stg_contract.specs.inner.Watches.{AreEntriesBelow, AreQueued, IsUnderWay, toil_of, unweighed, unweighed_entry}

-- an element of a list with one more is the first or stands in the rest
pub contained : {X : Type 0} (x y : X) (xs : List X) → Contains (x ∷ xs) y → (x ≡ y) ⊎ Contains xs y
contained x y xs c = go c.0 c.1 c.2
  where
    go : (k : ℕ) → k < length (x ∷ xs) → get_or (x ∷ xs) k y ≡ y → (x ≡ y) ⊎ Contains xs y
    go zero low is = inl is
    go (suc k) low is = inr (k, omega (arith, low), is)

first_contained : {X : Type 0} (x : X) (xs : List X) → Contains (x ∷ xs) x
first_contained x xs = (0, omega arith, refl)

later_contained : {X : Type 0} (x y : X) (xs : List X) → Contains xs y → Contains (x ∷ xs) y
later_contained x y xs c = (suc c.0, omega (arith, c.1), c.2)

-- what is kept for t once it is set, and for each other one
pub least-set : (watch : List (Option ℕ)) (t : ℕ) (o : Option ℕ) → t < length watch
    → least_places (set watch t o) t ≡ o
least-set watch t o low = get_or-set_same watch t o None low

pub least-set_other : (watch : List (Option ℕ)) (t u : ℕ) (o : Option ℕ) → u ≢ t
    → least_places (set watch t o) u ≡ least_places watch u
least-set_other watch t u o other = get_or-set_other watch t u o None other

none_some : (n : ℕ) → None ≡ Some n → ⊥
none_some n e = absurd (cc)

-- where something is kept, it is watched
kept_watched : (watch : List (Option ℕ)) (t n : ℕ) → least_places watch t ≡ Some n → IsWatchedDummy watch t
kept_watched watch t n e = ap is_some e

record KeptFor (watch : List (Option ℕ)) (t : ℕ) : Type 0 where
  number : ℕ
  is : least_places watch t ≡ Some number

watched_kept : (watch : List (Option ℕ)) (t : ℕ) → IsWatchedDummy watch t → KeptFor watch t
watched_kept watch t w = go (least_places watch t) refl w
  where
    go : (o : Option ℕ) → least_places watch t ≡ o → is_some o ≡ true → KeptFor watch t
    go None e h = absurd (false≢true h)
    go (Some n) e h = record { number = n; is = e }

-- what holds of all holds of each that stands in the list
pub contains_at : {X : Type 0} (P : X → Type 0) (xs : List X) (x : X) → All P xs → Contains xs x → P x
contains_at P xs x all c = subst P c.2 (all c.0 x c.1)

-- the order in which entries wait tells nothing
pub reordered : (g : Graph) (old now : List (Option ℕ)) (waiting more aside : List (ℕ × ℕ))
    → IsUnderWay g old now waiting aside → IsPermutation waiting more → IsUnderWay g old now more aside
reordered g old now waiting more aside way p = record {
  listed = λ u m e. elim (way.listed u m e) [
    | inr a ↦ inr a
    | inl w ↦ inl (Contains-permutation waiting more (m, u) p w)
  ];
  below = All-permutation (λ (x : ℕ × ℕ). x.1 < length now) waiting more p way.below;
  aside_below = way.aside_below;
  no_candidate = way.no_candidate;
  least = way.least;
  drops = way.drops;
}

module _ (g : Graph) (old now : List (Option ℕ)) (t n : ℕ) (waiting aside : List (ℕ × ℕ)) (way : IsUnderWay g old now ((n, t) ∷ waiting) aside) where
  -- the dummy of the entry is one of the numbers
  pub there : t < length now
  there = All-head (λ (x : ℕ × ℕ). x.1 < length now) (n, t) waiting way.below

  rest_below : AreEntriesBelow (length now) waiting
  rest_below = All-tail (λ (x : ℕ × ℕ). x.1 < length now) (n, t) waiting way.below

  -- the entry isn't what is kept for its dummy any more, and is passed over
  pub passed : least_places now t ≢ Some n → IsUnderWay g old now waiting aside
  passed stale = record {
    listed = λ u m e. elim (way.listed u m e) [
      | inr a ↦ inr a
      | inl w ↦ elim (contained (n, t) (m, u) waiting w) [
        | inr c ↦ inl c
        | inl same ↦
            let numbers : n ≡ m = ap (λ (x : ℕ × ℕ). x.0) same in
            let trans : t ≡ u = ap (λ (x : ℕ × ℕ). x.1) same in
            absurd (stale (ap (least_places now) trans ∙ e ∙ ap Some (sym numbers)))
      ]
    ];
    below = rest_below;
    aside_below = way.aside_below;
    no_candidate = way.no_candidate;
    least = way.least;
    drops = way.drops;
  }

  -- no dummy stands there, or one without hope, and is watched no more
  pub dropped : (IsDummy g t → ¬ MayContract g t) → IsUnderWay g old (set now t None) waiting aside
  dropped lost =
      let none = least-set now t None there in
      let other = least-set_other now t in
      let long = length-set now t None in
      record {
        listed = λ u m e. elim (cases_eq u t) [
          | inl same ↦ absurd (none_some m (sym (ap (least_places (set now t None)) same ∙ none) ∙ e))
          | inr differs ↦ elim (way.listed u m (sym (other u None differs) ∙ e)) [
            | inr a ↦ inr a
            | inl w ↦ elim (contained (n, t) (m, u) waiting w) [
              | inr c ↦ inl c
              | inl same ↦ absurd (differs (sym (ap (λ (x : ℕ × ℕ). x.1) same)))
            ]
          ]
        ];
        below = subst (λ k. AreEntriesBelow k waiting) (sym long) rest_below;
        aside_below = subst (λ k. AreEntriesBelow k aside) (sym long) way.aside_below;
        no_candidate = way.no_candidate;
        least = λ u m e d. elim (cases_eq u t) [
          | inl same ↦ absurd (none_some m (sym (ap (least_places (set now t None)) same ∙ none) ∙ e))
          | inr differs ↦ way.least u m (sym (other u None differs) ∙ e) d
        ];
        drops = record {
          as_long = long ∙ way.drops.as_long;
          only = λ u w. elim (cases_eq u t) [
            | inl same ↦ absurd (false≢true (sym (ap is_some (ap (least_places (set now t None)) same ∙ none)) ∙ w))
            | inr differs ↦ way.drops.only u (sym (ap is_some (other u None differs)) ∙ w)
          ];
          hopeful = λ u w d may. elim (cases_eq u t) [
            | inl same ↦ absurd (lost (subst (IsDummy g) same d) (subst (MayContract g) same may))
            | inr differs ↦ ap is_some (other u None differs) ∙ way.drops.hopeful u w d may
          ];
        };
      }

  -- its contraction makes another number of places, and it waits with that one
  pub weighed : (m : ℕ) (more : List (ℕ × ℕ)) → least_places now t ≡ Some n → m ≤ new_places g t
      → IsPermutation ((m, t) ∷ waiting) more → IsUnderWay g old (set now t (Some m)) more aside
  weighed m more here most p =
      let set_is = least-set now t (Some m) there in
      let other = least-set_other now t in
      let long = length-set now t (Some m) in
      record {
        listed = λ u k e. elim (cases_eq u t) [
          | inl same ↦
              let numbers : Some m ≡ Some k = sym set_is ∙ ap (least_places (set now t (Some m))) (sym same) ∙ e in
              let is : m ≡ k = cc in
              inl (Contains-permutation ((m, t) ∷ waiting) more (k, u) p (subst (λ (x : ℕ × ℕ). Contains ((m, t) ∷ waiting) x) (λ i. (is i, sym same i)) (first_contained (m, t) waiting)))
          | inr differs ↦ elim (way.listed u k (sym (other u (Some m) differs) ∙ e)) [
            | inr a ↦ inr a
            | inl w ↦ elim (contained (n, t) (k, u) waiting w) [
              | inr c ↦ inl (Contains-permutation ((m, t) ∷ waiting) more (k, u) p (later_contained (m, t) (k, u) waiting c))
              | inl same ↦ absurd (differs (sym (ap (λ (x : ℕ × ℕ). x.1) same)))
            ]
          ]
        ];
        below = subst (λ k. AreEntriesBelow k more) (sym long) (All-permutation (λ (x : ℕ × ℕ). x.1 < length now) ((m, t) ∷ waiting) more p (All-cons (λ (x : ℕ × ℕ). x.1 < length now) (m, t) waiting there rest_below));
        aside_below = subst (λ k. AreEntriesBelow k aside) (sym long) way.aside_below;
        no_candidate = way.no_candidate;
        least = λ u k e d. elim (cases_eq u t) [
          | inl same ↦
              let numbers : Some m ≡ Some k = sym set_is ∙ ap (least_places (set now t (Some m))) (sym same) ∙ e in
              let is : m ≡ k = cc in
              omega (arith, is, most, ap (new_places g) same)
          | inr differs ↦ way.least u k (sym (other u (Some m) differs) ∙ e) d
        ];
        drops = record {
          as_long = long ∙ way.drops.as_long;
          only = λ u w. elim (cases_eq u t) [
            | inl same ↦ way.drops.only u (ap is_some (ap (least_places now) same ∙ here))
            | inr differs ↦ way.drops.only u (sym (ap is_some (other u (Some m) differs)) ∙ w)
          ];
          hopeful = λ u w d may. elim (cases_eq u t) [
            | inl same ↦ ap is_some (ap (least_places (set now t (Some m))) same ∙ set_is)
            | inr differs ↦ ap is_some (other u (Some m) differs) ∙ way.drops.hopeful u w d may
          ];
        };
      }

  -- it is no candidate, and is put aside
  pub put_aside : (more : List (ℕ × ℕ)) → ¬ IsCandidate g t → IsPermutation ((n, t) ∷ aside) more
      → IsUnderWay g old now waiting more
  put_aside more none p = record {
    listed = λ u m e. elim (way.listed u m e) [
      | inr a ↦ inr (Contains-permutation ((n, t) ∷ aside) more (m, u) p (later_contained (n, t) (m, u) aside a))
      | inl w ↦ elim (contained (n, t) (m, u) waiting w) [
        | inr c ↦ inl c
        | inl same ↦ inr (Contains-permutation ((n, t) ∷ aside) more (m, u) p (subst (λ (x : ℕ × ℕ). Contains ((n, t) ∷ aside) x) same (first_contained (n, t) aside)))
      ]
    ];
    below = rest_below;
    aside_below = All-permutation (λ (x : ℕ × ℕ). x.1 < length now) ((n, t) ∷ aside) more p (All-cons (λ (x : ℕ × ℕ). x.1 < length now) (n, t) aside there way.aside_below);
    no_candidate = All-permutation (λ (x : ℕ × ℕ). ¬ IsCandidate g x.1) ((n, t) ∷ aside) more p (All-cons (λ (x : ℕ × ℕ). ¬ IsCandidate g x.1) (n, t) aside none way.no_candidate);
    least = way.least;
    drops = way.drops;
  }

  -- where it comes first, and its contraction makes that many places, it is the cheapest
  pub is_cheapest : WatchesCandidates g old → All (ComesFirst (n, t)) waiting → n ≡ new_places g t
      → IsCandidate g t → IsCheapest g t
  is_cheapest watches first is candidate = record { candidate = candidate; cheapest = least }
    where
      later : (u m : ℕ) → m ≤ new_places g u → ComesFirst (n, t) (m, u)
          → (new_places g t < new_places g u) ⊎ ((new_places g t ≡ new_places g u) × (t ≤ u))
      later u m most (inl l) = inl (omega (arith, l, is, most))
      later u m most (inr e) = elim (cases_lt m (new_places g u)) [
        | inl l ↦ inl (omega (arith, l, is, e.0))
        | inr h ↦ inr (omega (arith, h, is, e.0, most), e.1)
      ]

      least : (u : ℕ) → IsCandidate g u
          → (new_places g t < new_places g u) ⊎ ((new_places g t ≡ new_places g u) × (t ≤ u))
      least u c =
          let may : MayContract g u = record { contraction = c.contractible.contraction; no_conflict = c.contractible.no_conflict } in
          let k = watched_kept now u (way.drops.hopeful u (watches u c) c.dummy may) in
          elim (way.listed u k.number k.is) [
            | inr a ↦ absurd (contains_at (λ (x : ℕ × ℕ). ¬ IsCandidate g x.1) aside (k.number, u) way.no_candidate a c)
            | inl w ↦ elim (contained (n, t) (k.number, u) waiting w) [
              | inl same ↦
                  let trans : t ≡ u = ap (λ (x : ℕ × ℕ). x.1) same in
                  inr (ap (new_places g) trans, omega (arith, trans))
              | inr later_on ↦ later u k.number (way.least u k.number k.is c.dummy) (contains_at (ComesFirst (n, t)) waiting (k.number, u) first later_on)
            ]
          ]

-- where nothing waits any more, there is no candidate
pub none_left : (g : Graph) (old now : List (Option ℕ)) (aside : List (ℕ × ℕ)) → IsUnderWay g old now [] aside
    → WatchesCandidates g old → (t : ℕ) → ¬ IsCandidate g t
none_left g old now aside way watches t c =
    let may : MayContract g t = record { contraction = c.contractible.contraction; no_conflict = c.contractible.no_conflict } in
    let k = watched_kept now t (way.drops.hopeful t (watches t c) c.dummy may) in
    elim (way.listed t k.number k.is) [
      | inr a ↦ contains_at (λ (x : ℕ × ℕ). ¬ IsCandidate g x.1) aside (k.number, t) way.no_candidate a c
      | inl w ↦ absurd (omega (arith, w.1))
    ]

-- a search begins
pub way_begins : (g : Graph) (watch : List (Option ℕ)) (q : Queued) → AreQueued watch q → AreLeastPlaces g watch
    → IsUnderWay g watch watch q.waiting q.aside
way_begins g watch q queued least = record {
  listed = λ t n e. inl (queued.listed t n e);
  below = queued.below;
  aside_below = subst (AreEntriesBelow (length watch)) (sym queued.none_aside) (All-nil (λ (x : ℕ × ℕ). x.1 < length watch));
  no_candidate = subst (All (λ (x : ℕ × ℕ). ¬ IsCandidate g x.1)) (sym queued.none_aside) (All-nil (λ (x : ℕ × ℕ). ¬ IsCandidate g x.1));
  least = least;
  drops = record { as_long = refl; only = λ t w. w; hopeful = λ t w d may. w };
}

-- and ends, when what is put aside waits again
pub way_ends : (g : Graph) (old now : List (Option ℕ)) (waiting aside : List (ℕ × ℕ)) (q : Queued)
    → IsUnderWay g old now waiting aside → IsPermutation (waiting ++ aside) q.waiting → q.aside ≡ []
    → AreQueued now q
way_ends g old now waiting aside q way p none = record {
  listed = λ t n e. Contains-permutation (waiting ++ aside) q.waiting (n, t) p (elim (way.listed t n e) [
    | inl w ↦ Contains-append_left waiting aside (n, t) w
    | inr a ↦ Contains-append_right waiting aside (n, t) a
  ]);
  below = All-permutation (λ (x : ℕ × ℕ). x.1 < length now) (waiting ++ aside) q.waiting p (All-append (λ (x : ℕ × ℕ). x.1 < length now) waiting aside way.below way.aside_below);
  none_aside = none;
}

-- each entry takes some toil
pub toil_some : (g : Graph) (x : ℕ × ℕ) → 0 < toil_of g x
toil_some g x = elim (cases_eq x.0 (new_places g x.1)) [
  | inl e ↦ omega (arith, ap {B = ℕ} (λ b. cond b 1 2) (eq-eqb x.0 (new_places g x.1) e))
  | inr n ↦ omega (arith, ap {B = ℕ} (λ b. cond b 1 2) (ne_eqb x.0 (new_places g x.1) n))
]

-- less with the right number of places than with another one
pub toil_weighed : (g : Graph) (n m t : ℕ) → n ≢ m → m ≡ new_places g t → toil_of g (m, t) < toil_of g (n, t)
toil_weighed g n m t differ is =
    omega (arith, ap {B = ℕ} (λ b. cond b 1 2) (eq-eqb m (new_places g t) is), ap {B = ℕ} (λ b. cond b 1 2) (ne_eqb n (new_places g t) (λ e. differ (e ∙ sym is))))

-- each entry that waits, with 0 places, waits or is put aside
pub forgotten : (all waiting rest aside more : List (ℕ × ℕ)) (n t : ℕ)
    → IsPermutation (map unweighed_entry all) (map unweighed_entry waiting ++ aside)
    → IsPermutation waiting ((n, t) ∷ rest) → IsPermutation ((0, t) ∷ aside) more
    → IsPermutation (map unweighed_entry all) (map unweighed_entry rest ++ more)
forgotten all waiting rest aside more n t before popped put =
    let mapped = IsPermutation-append_left aside (map unweighed_entry waiting) ((0, t) ∷ map unweighed_entry rest) (IsPermutation-map unweighed_entry waiting ((n, t) ∷ rest) popped) in
    let moved = IsPermutation-sym (map unweighed_entry rest ++ (0, t) ∷ aside) ((0, t) ∷ (map unweighed_entry rest ++ aside)) (IsPermutation-middle (map unweighed_entry rest) (0, t) aside) in
    let joined = IsPermutation-append_right (map unweighed_entry rest) ((0, t) ∷ aside) more put in
    IsPermutation-trans (map unweighed_entry all) (map unweighed_entry waiting ++ aside) (map unweighed_entry rest ++ more) before
    (IsPermutation-trans (map unweighed_entry waiting ++ aside) ((0, t) ∷ (map unweighed_entry rest ++ aside)) (map unweighed_entry rest ++ more) mapped
    (IsPermutation-trans ((0, t) ∷ (map unweighed_entry rest ++ aside)) (map unweighed_entry rest ++ (0, t) ∷ aside) (map unweighed_entry rest ++ more) moved joined))

-- what was kept where 0 places are kept
record KeptBefore (watch : List (Option ℕ)) (t n : ℕ) : Type 0 where
  number : ℕ
  was : least_places watch t ≡ Some number
  zero_now : n ≡ 0

kept_before : (watch : List (Option ℕ)) (t n : ℕ) → unweighed (least_places watch t) ≡ Some n → KeptBefore watch t n
kept_before watch t n = go (least_places watch t) refl
  where
    go : (o : Option ℕ) → least_places watch t ≡ o → unweighed o ≡ Some n → KeptBefore watch t n
    go None was e = absurd (none_some n e)
    go (Some m) was e = record { number = m; was = was; zero_now = let f : 0 ≡ n = cc in sym f }

unweighed_some : (o : Option ℕ) → is_some (unweighed o) ≡ is_some o
unweighed_some None = refl
unweighed_some (Some n) = refl

module _ (old new : List (Option ℕ)) (long : length new ≡ length old) (same : (t : ℕ) → least_places new t ≡ unweighed (least_places old t)) where
  -- with 0 places kept, what was queued waits with 0 places
  pub forgotten_queue : (q r : Queued) → AreQueued old q → IsPermutation (map unweighed_entry q.waiting) r.waiting
      → r.aside ≡ [] → AreQueued new r
  forgotten_queue q r queued p none = record {
    listed = λ t n e.
        let k = kept_before old t n (sym (same t) ∙ e) in
        let c = queued.listed t k.number k.was in
        Contains-permutation (map unweighed_entry q.waiting) r.waiting (n, t) p (subst (λ m. Contains (map unweighed_entry q.waiting) (m, t)) (sym k.zero_now) (Contains-map unweighed_entry q.waiting (k.number, t) c));
    below = All-permutation (λ (x : ℕ × ℕ). x.1 < length new) (map unweighed_entry q.waiting) r.waiting p (subst (λ k. All (λ (x : ℕ × ℕ). x.1 < k) (map unweighed_entry q.waiting)) (sym long) (All-map (λ (x : ℕ × ℕ). x.1 < length old) unweighed_entry q.waiting queued.below));
    none_aside = none;
  }

  pub watched_before : (t : ℕ) → IsWatchedDummy new t → IsWatchedDummy old t
  watched_before t w = sym (ap is_some (same t) ∙ unweighed_some (least_places old t)) ∙ w

  pub watched_after : (t : ℕ) → IsWatchedDummy old t → IsWatchedDummy new t
  watched_after t w = ap is_some (same t) ∙ unweighed_some (least_places old t) ∙ w

  -- no contraction makes fewer places than 0
  pub forgotten_least : (g : Graph) → AreLeastPlaces g new
  forgotten_least g t n e d = let k = kept_before old t n (sym (same t) ∙ e) in omega (arith, k.zero_now)

  -- what is dropped after that is dropped
  pub forgotten_drops : (g : Graph) (later : List (Option ℕ)) → DropsHopeless g new later → DropsHopeless g old later
  forgotten_drops g later d = record {
    as_long = d.as_long ∙ long;
    only = λ t w. watched_before t (d.only t w);
    hopeful = λ t w dummy may. d.hopeful t (watched_after t w) dummy may;
  }

  pub forgotten_watches : (g : Graph) → WatchesCandidates g old → WatchesCandidates g new
  forgotten_watches g watches t c = watched_after t (watches t c)

-- so many places are kept for a dummy
pub kept_queue : (watch : List (Option ℕ)) (t k : ℕ) (q r : Queued) → AreQueued watch q → t < length watch
    → IsPermutation ((k, t) ∷ q.waiting) r.waiting → r.aside ≡ q.aside
    → AreQueued (set watch t (Some k)) r
kept_queue watch t k q r queued low p aside = record {
  listed = λ u n e. Contains-permutation ((k, t) ∷ q.waiting) r.waiting (n, u) p (elim (cases_eq u t) [
    | inl same ↦
        let numbers : Some k ≡ Some n = sym (least-set watch t (Some k) low) ∙ ap (least_places (set watch t (Some k))) (sym same) ∙ e in
        let is : k ≡ n = cc in
        subst (λ (x : ℕ × ℕ). Contains ((k, t) ∷ q.waiting) x) (λ i. (is i, sym same i)) (first_contained (k, t) q.waiting)
    | inr differs ↦ later_contained (k, t) (n, u) q.waiting (queued.listed u n (sym (least-set_other watch t u (Some k) differs) ∙ e))
  ]);
  below = subst (λ m. AreEntriesBelow m r.waiting) (sym (length-set watch t (Some k))) (All-permutation (λ (x : ℕ × ℕ). x.1 < length watch) ((k, t) ∷ q.waiting) r.waiting p (All-cons (λ (x : ℕ × ℕ). x.1 < length watch) (k, t) q.waiting low queued.below));
  none_aside = aside ∙ queued.none_aside;
}
