-- What the tests of a dummy say.
use Rattle.std.proofs.Common.{◌≡◌, ◌≢◌, ◌<◌, ◌≤◌, ◌==◌, ◌&&◌, ℕ, Bool, true, false, length, eq-eqb, is_some, refl, sym, ap, ◌∙◌, inl, inr, arith}
use Rattle.std.specs.List.{list_all, list_any}
use Rattle.std.proofs.lemmas.Bool.{cases_lt, cases_Bool, eqb-true, lt-ltb, ltb-true, false≢true}
use Rattle.std.proofs.lemmas.List.{get_or_past}
use Rattle.stg_net.specs.Graph.{Graph, IsTrans, tokens_at, takes, gives}
use Rattle.stg_edit.specs.Walks.{taken_places, given_places, giving_trans}
use Rattle.stg_arena.specs.WalkItems.{weighted}
use Rattle.stg_edit.specs.Drafts.{IsWeightlessWhereRemoved}
use Rattle.stg_laws.specs.Secure.{IsPureOrdinary, IsType1, IsType2}
use Rattle.stg_laws.proofs.Origins.{takes-past, gives-past}
use Rattle.stg_contract.specs.Verdicts.{HasLoop, HasWeight}
use Rattle.stg_contract.specs.inner.Tests.{is_in, is_only, are_ones, has_loop, is_ordinary, is_type1, is_type2, is_empty}
use Rattle.stg_contract.proofs.WeightLists.{Found, one_to, one_from, any_one, one_any, not_all_one, one_not_all, weight_in-weighted, live_where}

-- what passes for all of a list passes at each number that has a weight
pub all_at : (f : ℕ × ℕ → Bool) (w : ℕ → ℕ) (n k : ℕ) → list_all f (weighted n w) ≡ true → k < n → 0 < w k
    → f (k, w k) ≡ true
all_at f w n k e low some = elim (cases_Bool (f (k, w k))) [
  | inl h ↦ h
  | inr h ↦ absurd (false≢true (sym (one_not_all f (weighted n w) (one_from (λ x. f x ≡ false) w n 0 (record { number = k; low = omega arith; high = omega (arith, low); some = some; holds = h }))) ∙ e))
]

-- what fails for one of a list fails at a number that has a weight
pub not_all_at : (f : ℕ × ℕ → Bool) (w : ℕ → ℕ) (n : ℕ) → list_all f (weighted n w) ≡ false
    → Found (λ x. f x ≡ false) w 0 n
not_all_at f w n e = one_to (λ x. f x ≡ false) w n 0 (not_all_one f (weighted n w) e)

-- what passes for one of a list passes at a number that has a weight
pub any_at : (f : ℕ × ℕ → Bool) (w : ℕ → ℕ) (n : ℕ) → list_any f (weighted n w) ≡ true
    → Found (λ x. f x ≡ true) w 0 n
any_at f w n e = one_to (λ x. f x ≡ true) w n 0 (any_one f (weighted n w) e)

-- and what passes at such a number passes for one of the list
pub any_from : (f : ℕ × ℕ → Bool) (w : ℕ → ℕ) (n k : ℕ) → k < n → 0 < w k → f (k, w k) ≡ true
    → list_any f (weighted n w) ≡ true
any_from f w n k low some h = one_any f (weighted n w) (one_from (λ x. f x ≡ true) w n 0 (record { number = k; low = omega arith; high = omega (arith, low); some = some; holds = h }))

-- where a weight is, there is a number for it
pub taken_below : (g : Graph) (t p : ℕ) → 0 < takes g t p → p < length g.places
taken_below g t p a = elim (cases_lt p (length g.places)) [ inl l ↦ l | inr past ↦ absurd (omega (arith, a, takes-past g t p past)) ]

-- so it is where it is given
pub given_below : (g : Graph) (t p : ℕ) → 0 < gives g t p → p < length g.places
given_below g t p a = elim (cases_lt p (length g.places)) [ inl l ↦ l | inr past ↦ absurd (omega (arith, a, gives-past g t p past)) ]

-- a live transition has a number below the next one
pub live_below : (g : Graph) (u : ℕ) → IsTrans g u → u < length g.trans
live_below g u live = elim (cases_lt u (length g.trans)) [ inl l ↦ l | inr past ↦ absurd (false≢true (sym (ap is_some (get_or_past g.trans u _ past)) ∙ live)) ]

-- the test finds a loop
pub loop_found : (g : Graph) (t : ℕ) → has_loop g t ≡ true → HasLoop g t
loop_found g t e =
    let f = any_at (is_in (given_places g t)) (takes g t) (length g.places) e in
    let h = ltb-true 0 _ f.holds in
    record { place = f.number; taken = f.some; given = omega (arith, h, weight_in-weighted (gives g t) (length g.places) 0 f.number (omega arith) f.high) }

-- and finds each
pub loop_there : (g : Graph) (t : ℕ) → HasLoop g t → has_loop g t ≡ true
loop_there g t l =
    let low = taken_below g t l.place l.taken in
    any_from (is_in (given_places g t)) (takes g t) (length g.places) l.place low l.taken
    (lt-ltb 0 _ (omega (arith, l.given, weight_in-weighted (gives g t) (length g.places) 0 l.place (omega arith) (omega (arith, low)))))

-- so there is none where it finds none
pub no_loop : (g : Graph) (t : ℕ) → has_loop g t ≡ false → HasLoop g t → ⊥
no_loop g t e l = false≢true (sym e ∙ loop_there g t l)

-- a list whose weights are all 1
one_at : (w : ℕ → ℕ) (n : ℕ) → are_ones (weighted n w) ≡ true → (k : ℕ) → (n ≤ k → w k ≡ 0) → w k ≤ 1
one_at w n e k past = elim (cases_lt k n) [
  | inl low ↦ elim (cases_lt 0 (w k)) [
    | inl some ↦ omega (arith, eqb-true (w k) 1 (all_at (λ x. x.1 == 1) w n k e low some))
    | inr none ↦ omega (arith, none)
  ]
  | inr high ↦ omega (arith, past high)
]

heavy_at : (w : ℕ → ℕ) (n : ℕ) → are_ones (weighted n w) ≡ false → (k : ℕ) × (1 < w k)
heavy_at w n e =
    let f = not_all_at (λ x. x.1 == 1) w n e in (
      f.number,
      elim (cases_lt 1 (w f.number)) [
        | inl h ↦ h
        | inr h ↦ absurd (false≢true (sym f.holds ∙ eq-eqb (w f.number) 1 (omega (arith, h, f.some))))
      ],
    )

-- the test finds an arc of a weight above 1
pub weight_found : (g : Graph) (t : ℕ) → is_ordinary g t ≡ false → HasWeight g t
weight_found g t e = elim (cases_Bool (are_ones (taken_places g t))) [
  | inl h ↦ let x = heavy_at (gives g t) (length g.places) (rw h at e) in record { place = x.0; above = inr x.1 }
  | inr h ↦ let x = heavy_at (takes g t) (length g.places) h in record { place = x.0; above = inl x.1 }
]

-- the first of two tests that both pass, and the second
pub both_first : (a b : Bool) → (a && b) ≡ true → a ≡ true
both_first true b e = refl
both_first false b e = e

pub both_second : (a b : Bool) → (a && b) ≡ true → b ≡ true
both_second true b e = e
both_second false b e = absurd (false≢true e)

-- what passes both tests is pure and ordinary
pub pure_found : (g : Graph) (t : ℕ) → has_loop g t ≡ false → is_ordinary g t ≡ true → IsPureOrdinary g t
pure_found g t loop single = record {
  pure = λ p some. elim (cases_lt 0 (gives g t p)) [
    | inl h ↦ absurd (no_loop g t loop (record { place = p; taken = some; given = h }))
    | inr h ↦ omega (arith, h)
  ];
  takes_one = λ p. one_at (takes g t) (length g.places) (both_first (are_ones (taken_places g t)) (are_ones (given_places g t)) single) p (takes-past g t p);
  gives_one = λ p. one_at (gives g t) (length g.places) (both_second (are_ones (taken_places g t)) (are_ones (given_places g t)) single) p (gives-past g t p);
}

-- t alone has weights at the places that have one
sole_true : (t n m : ℕ) (w : ℕ → ℕ → ℕ) (v : ℕ → ℕ)
    → list_all (λ (x : ℕ × ℕ). is_only t (weighted n (λ u. w u x.0))) (weighted m v) ≡ true → (u p : ℕ)
    → u < n → p < m → u ≢ t → 0 < v p → w u p ≡ 0
sole_true t n m w v e u p hu hp other some = elim (cases_lt 0 (w u p)) [
  | inl h ↦ absurd (other (eqb-true u t (all_at (λ x. x.0 == t) (λ u. w u p) n u (all_at (λ (x : ℕ × ℕ). is_only t (weighted n (λ u. w u x.0))) v m p e hp some) hu h)))
  | inr h ↦ omega (arith, h)
]

record Another (t n : ℕ) (w : ℕ → ℕ → ℕ) (v : ℕ → ℕ) : Type 0 where
  trans : ℕ
  place : ℕ
  below : trans < n
  other : trans ≢ t
  weight : 0 < w trans place
  there : 0 < v place

sole_false : (t n m : ℕ) (w : ℕ → ℕ → ℕ) (v : ℕ → ℕ)
    → list_all (λ (x : ℕ × ℕ). is_only t (weighted n (λ u. w u x.0))) (weighted m v) ≡ false → Another t n w v
sole_false t n m w v e =
    let f = not_all_at (λ (x : ℕ × ℕ). is_only t (weighted n (λ u. w u x.0))) v m e in
    let h = not_all_at (λ x. x.0 == t) (λ u. w u f.number) n f.holds in
    record {
      trans = h.number;
      place = f.number;
      below = omega (arith, h.high);
      other = λ same. false≢true (sym h.holds ∙ eq-eqb h.number t same);
      weight = h.some;
      there = f.some;
    }

-- the test finds the first type
pub type1_found : (g : Graph) (t : ℕ) → is_type1 g t ≡ true → IsType1 g t
type1_found g t e u p live other some = sole_true t (length g.trans) (length g.places) (takes g) (takes g t) e u p (live_below g u live) (taken_below g t p some) other some

-- and finds it wherever it is
pub not_type1 : (g : Graph) (t : ℕ) → IsWeightlessWhereRemoved g → is_type1 g t ≡ false → IsType1 g t → ⊥
not_type1 g t weightless e type1 =
    let a = sole_false t (length g.trans) (length g.places) (takes g) (takes g t) e in
    let live = live_where g a.trans (takes g a.trans a.place) a.weight (λ gone. (weightless a.trans a.place a.below gone).0) in
    omega (arith, a.weight, type1 a.trans a.place live a.other a.there)

-- the test finds the second type
pub type2_found : (g : Graph) (t : ℕ) → is_type2 g t ≡ true → IsType2 g t
type2_found g t e =
    let alone = both_first (list_all (λ (x : ℕ × ℕ). is_only t (giving_trans g x.0)) (given_places g t)) (list_any (is_empty g) (given_places g t)) e in
    let f = any_at (is_empty g) (gives g t) (length g.places) (both_second (list_all (λ (x : ℕ × ℕ). is_only t (giving_trans g x.0)) (given_places g t)) (list_any (is_empty g) (given_places g t)) e) in
    record {
      alone = λ u q live other some. sole_true t (length g.trans) (length g.places) (gives g) (gives g t) alone u q (live_below g u live) (given_below g t q some) other some;
      empty = f.number;
      after = f.some;
      no_tokens = eqb-true (tokens_at g f.number) 0 f.holds;
    }

-- and finds it wherever it is
pub not_type2 : (g : Graph) (t : ℕ) → IsWeightlessWhereRemoved g → is_type2 g t ≡ false → IsType2 g t → ⊥
not_type2 g t weightless e type2 = elim (cases_Bool (list_all (λ (x : ℕ × ℕ). is_only t (giving_trans g x.0)) (given_places g t))) [
  | inl h ↦ false≢true (sym (rw h at e) ∙ any_from (is_empty g) (gives g t) (length g.places) type2.empty (given_below g t type2.empty type2.after) type2.after (eq-eqb (tokens_at g type2.empty) 0 type2.no_tokens))
  | inr h ↦
      let a = sole_false t (length g.trans) (length g.places) (gives g) (gives g t) h in
      let live = live_where g a.trans (gives g a.trans a.place) a.weight (λ gone. (weightless a.trans a.place a.below gone).1) in
      omega (arith, a.weight, type2.alone a.trans a.place live a.other a.there)
]
