-- What is left of a place once a transition is contracted.
use Rattle.std.proofs.Common.{◌≡◌, ◌<◌, ◌≤◌, ◌⊎◌, ◌&&◌, ◌||◌, ℕ, true, false, not, List, [], ◌∷◌, length, is_some, ltb, refl, sym, ap, ◌∙◌, inl, inr, arith}
use Rattle.std.specs.Bool.{⊤}
use Rattle.std.proofs.lemmas.Bool.{cases_lt, cases_Bool, and_parts, and_from, and_left, and_right, or_parts, or_from, not-true, not_from_false, le-ltb, ltb-false, false≢true}
use Rattle.std.proofs.lemmas.List.{get_or_past}
use Rattle.stg_net.specs.Graph.{Graph, IsPlace, place_at, takes, gives}
use Rattle.stg_net.specs.Contraction.{is_touched}
use Rattle.stg_edit.specs.Walks.{taken_places, given_places}
use Rattle.stg_laws.proofs.Origins.{sum_over}
use Rattle.stg_laws.proofs.ContractedOrigins.{contracted-IsContraction}
use Rattle.stg_contract.specs.inner.Tests.{is_nothing, vanishes, is_left}
use Rattle.stg_contract.proofs.WeightLists.{One, one_to, one_from}
use Rattle.stg_contract.proofs.DummyTests.{taken_below, given_below}

-- t has a place before it and one after it
pub record HasPair (g : Graph) (t : ℕ) : Type 0 where
  pub before : ℕ
  pub after : ℕ
  pub taken : 0 < takes g t before
  pub given : 0 < gives g t after

-- p is live, and t doesn't touch it or has a place on each side
pub record IsLeft (g : Graph) (t p : ℕ) : Type 0 where
  pub live : IsPlace g p
  pub stays : ((takes g t p ≡ 0) × (gives g t p ≡ 0)) ⊎ HasPair g t

something : (xs : List (ℕ × ℕ)) → is_nothing xs ≡ false → One (λ x. ⊤) xs
something [] e = absurd (false≢true (sym e))
something (x ∷ xs) e = inl tt

not_nothing : (xs : List (ℕ × ℕ)) → One (λ x. ⊤) xs → is_nothing xs ≡ false
not_nothing [] o = absurd o
not_nothing (x ∷ xs) o = refl

some_taken : (g : Graph) (t p : ℕ) → 0 < takes g t p → is_nothing (taken_places g t) ≡ false
some_taken g t p some = not_nothing (taken_places g t) (one_from (λ x. ⊤) (takes g t) (length g.places) 0
    (record { number = p; low = omega arith; high = omega (arith, taken_below g t p some); some = some; holds = tt }))

some_given : (g : Graph) (t q : ℕ) → 0 < gives g t q → is_nothing (given_places g t) ≡ false
some_given g t q some = not_nothing (given_places g t) (one_from (λ x. ⊤) (gives g t) (length g.places) 0
    (record { number = q; low = omega arith; high = omega (arith, given_below g t q some); some = some; holds = tt }))

-- the test finds what is left
pub left_found : (g : Graph) (t p : ℕ) → is_left g t p ≡ true → IsLeft g t p
left_found g t p e = record { live = parts.0; stays = elim (cases_Bool (is_touched g t p)) [ inr not_touched ↦ inl (untouched not_touched) | inl touched ↦ inr (pair touched) ] }
  where
    parts : (is_some (place_at g p) ≡ true) × (not (vanishes g t p) ≡ true)
    parts = and_parts (is_some (place_at g p)) (not (vanishes g t p)) e

    untouched : is_touched g t p ≡ false → (takes g t p ≡ 0) × (gives g t p ≡ 0)
    untouched e = let none = or_parts (ltb 0 (takes g t p)) (ltb 0 (gives g t p)) e in (omega (arith, ltb-false 0 (takes g t p) none.0), omega (arith, ltb-false 0 (gives g t p) none.1))

    pair : is_touched g t p ≡ true → HasPair g t
    pair touched =
        let lonely : (is_nothing (taken_places g t) || is_nothing (given_places g t)) ≡ false =
        (λ i. sym touched i && (is_nothing (taken_places g t) || is_nothing (given_places g t))) ∙ not-true (vanishes g t p) parts.1 in
        let some = or_parts (is_nothing (taken_places g t)) (is_nothing (given_places g t)) lonely in
        let before = one_to (λ x. ⊤) (takes g t) (length g.places) 0 (something (taken_places g t) some.0) in
        let after = one_to (λ x. ⊤) (gives g t) (length g.places) 0 (something (given_places g t) some.1) in
        record { before = before.number; after = after.number; taken = before.some; given = after.some }

-- and all of it
pub left_there : (g : Graph) (t p : ℕ) → IsLeft g t p → is_left g t p ≡ true
left_there g t p left = and_from (is_some (place_at g p)) (not (vanishes g t p)) left.live (not_from_false (vanishes g t p) (stays left.stays))
  where
    stays : ((takes g t p ≡ 0) × (gives g t p ≡ 0)) ⊎ HasPair g t → vanishes g t p ≡ false
    stays (inl none) = and_left (is_touched g t p) _ (or_from (ltb 0 (takes g t p)) (ltb 0 (gives g t p)) (le-ltb 0 (takes g t p) (omega (arith, none.0))) (le-ltb 0 (gives g t p) (omega (arith, none.1))))
    stays (inr pair) = and_right (is_touched g t p) _ (or_from (is_nothing (taken_places g t)) (is_nothing (given_places g t)) (some_taken g t pair.before pair.taken) (some_given g t pair.after pair.given))

-- a place of the contracted graph stands for p, alone or with another one
pub record StandsFor (g : Graph) (t p : ℕ) : Type 0 where
  pub place : ℕ
  pub covers : (f : ℕ → ℕ) → f p ≤ sum_over ((contracted-IsContraction g t).origin place) f

-- a live place has a number below the next one
pub place_below : (g : Graph) (p : ℕ) → IsPlace g p → p < length g.places
place_below g p live = elim (cases_lt p (length g.places)) [ inl l ↦ l | inr past ↦ absurd (false≢true (sym (ap is_some (get_or_past g.places p _ past)) ∙ live)) ]

-- what is left of p stands in the contracted graph
pub left_stands : (g : Graph) (t p : ℕ) → IsLeft g t p → StandsFor g t p
left_stands g t p left = elim left.stays [ inl none ↦ alone none | inr pair ↦ paired pair ]
  where
    alone : (takes g t p ≡ 0) × (gives g t p ≡ 0) → StandsFor g t p
    alone none =
        let o = (contracted-IsContraction g t).old p (place_below g p left.live) none.0 none.1 in
        record { place = o.0; covers = λ f. omega (arith, ap (λ x. sum_over x f) o.1) }

    paired : HasPair g t → StandsFor g t p
    paired pair = elim (cases_lt 0 (takes g t p)) [
      | inl taken ↦
          let o = (contracted-IsContraction g t).pair p pair.after taken pair.given in
          record { place = o.0; covers = λ f. omega (arith, ap (λ x. sum_over x f) o.1) }
      | inr not_taken ↦ elim (cases_lt 0 (gives g t p)) [
        | inl given ↦
            let o = (contracted-IsContraction g t).pair pair.before p pair.taken given in
            record { place = o.0; covers = λ f. omega (arith, ap (λ x. sum_over x f) o.1) }
        | inr not_given ↦ alone (omega (arith, not_taken), omega (arith, not_given))
      ]
    ]
