-- There is one next step, and one attempt.
use Rattle.std.proofs.Common.{◌≡◌, Some, ℕ, [], ◌∷◌, refl, sym, ap, ◌∙◌, subst, arith}
use Rattle.stg_net.specs.Graph.{Graph}
use Rattle.stg_edit.specs.Replacing.{new_places}
use Rattle.stg_contract.specs.Verdicts.{IsVerdict}
use Rattle.stg_redundant.specs.declared.found.PlaceRule.{PlaceRule}
use Rattle.stg_redundant.specs.declared.found.PlaceRule.TheVariants as place_rule
use Rattle.stg_redundant.specs.declared.found.PlaceFound.{PlaceFound}
use Rattle.stg_redundant.specs.declared.found.DummyRule.{DummyRule}
use Rattle.stg_redundant.specs.declared.found.DummyRule.TheVariants as dummy_rule
use Rattle.stg_redundant.specs.declared.found.DummyFound.{DummyFound}
use Rattle.stg_redundant.specs.Rules.{IsPlaceRule, IsPlaceFound, IsDummyRule, IsDummyFound}
use Rattle.stg_derive.specs.declared.step.Secure.{Secure}
use Rattle.stg_derive.specs.declared.step.Secure.TheVariants.{Type1, Type2}
use Rattle.stg_derive.specs.declared.step.Step.{Step}
use Rattle.stg_derive.specs.declared.step.Step.TheVariants.{Contract, DropPlace, DropDummy}
use Rattle.stg_derive.specs.Steps.{verdict_of, IsNextContraction, stepped}
use Rattle.stg_derive.specs.Attempts.{IsAttempt}
use Rattle.stg_derive.specs.Laws.{StepIsOne, RestHasNoStep, AttemptIsOne}
use Rattle.stg_derive.proofs.StepEffects.{redundant_place_by, redundant_dummy_by}

one_place_rule : (g : Graph) (p : ℕ) (r s : PlaceRule) → IsPlaceRule g p r → IsPlaceRule g p s → r ≡ s
one_place_rule g p (place_rule.Same q) (place_rule.Same r) a b = ap place_rule.Same (let e : q ≡ r = omega (arith, a.1 r b.0, b.1 q a.0) in e)
one_place_rule g p (place_rule.Same q) place_rule.Loop a b = absurd (b.0 q a.0)
one_place_rule g p (place_rule.Same q) place_rule.Shortcut a b = absurd (b.0 q a.0)
one_place_rule g p place_rule.Loop (place_rule.Same r) a b = absurd (a.0 r b.0)
one_place_rule g p place_rule.Loop place_rule.Loop a b = refl
one_place_rule g p place_rule.Loop place_rule.Shortcut a b = absurd (b.1 a.1)
one_place_rule g p place_rule.Shortcut (place_rule.Same r) a b = absurd (a.0 r b.0)
one_place_rule g p place_rule.Shortcut place_rule.Loop a b = absurd (a.1 b.1)
one_place_rule g p place_rule.Shortcut place_rule.Shortcut a b = refl

one_dummy_rule : (g : Graph) (t : ℕ) (r s : DummyRule) → IsDummyRule g t r → IsDummyRule g t s → r ≡ s
one_dummy_rule g t dummy_rule.Loop dummy_rule.Loop a b = refl
one_dummy_rule g t dummy_rule.Loop (dummy_rule.Same u) a b = absurd (b.0 a)
one_dummy_rule g t (dummy_rule.Same u) dummy_rule.Loop a b = absurd (a.0 b)
one_dummy_rule g t (dummy_rule.Same u) (dummy_rule.Same v) a b = ap dummy_rule.Same (let e : u ≡ v = omega (arith, a.2 v b.1, b.2 u a.1) in e)

one_place : (g : Graph) (x y : PlaceFound) → IsPlaceFound g (Some x) → IsPlaceFound g (Some y) → x ≡ y
one_place g x y a b =
    let e : x.place ≡ y.place = omega (arith, a.1 y.place (redundant_place_by g y.place y.rule b.0), b.1 x.place (redundant_place_by g x.place x.rule a.0)) in
    let f = one_place_rule g y.place x.rule y.rule (subst (λ p. IsPlaceRule g p x.rule) e a.0) b.0 in
    λ i. record { place = e i; rule = f i }

one_dummy : (g : Graph) (x y : DummyFound) → IsDummyFound g (Some x) → IsDummyFound g (Some y) → x ≡ y
one_dummy g x y a b =
    let e : x.trans ≡ y.trans = omega (arith, a.1 y.trans (redundant_dummy_by g y.trans y.rule b.0), b.1 x.trans (redundant_dummy_by g x.trans x.rule a.0)) in
    let f = one_dummy_rule g y.trans x.rule y.rule (subst (λ t. IsDummyRule g t x.rule) e a.0) b.0 in
    λ i. record { trans = e i; rule = f i }

one_kind : (g : Graph) (t : ℕ) (r s : Secure) → IsVerdict g t (verdict_of r) → IsVerdict g t (verdict_of s) → r ≡ s
one_kind g t Type1 Type1 a b = refl
one_kind g t Type1 Type2 a b = absurd (b.1 a.1)
one_kind g t Type2 Type1 a b = absurd (a.1 b.1)
one_kind g t Type2 Type2 a b = refl

one_contraction : (g : Graph) (t u : ℕ) (r s : Secure) (p q : ℕ) → IsNextContraction g t r p → IsNextContraction g u s q → Contract t r p ≡ Contract u s q
one_contraction g t u r s p q a b =
    let e : t ≡ u = omega (arith, a.cheapest.cheapest u b.cheapest.candidate, b.cheapest.cheapest t a.cheapest.candidate) in
    let f = one_kind g u r s (subst (λ v. IsVerdict g v (verdict_of r)) e a.secure_by) b.secure_by in
    let h : p ≡ q = a.places_are ∙ ap (new_places g) e ∙ sym b.places_are in
    λ i. Contract (e i) (f i) (h i)

-- there is one plain step
pub step_is_one : StepIsOne
step_is_one g (DropPlace x) (DropPlace y) a b = ap DropPlace (one_place g x y a b)
step_is_one g (DropPlace x) (DropDummy y) a b = absurd (b.0 x.place (redundant_place_by g x.place x.rule a.0))
step_is_one g (DropPlace x) (Contract u s q) a b = absurd (b.no_redundant_place x.place (redundant_place_by g x.place x.rule a.0))
step_is_one g (DropDummy x) (DropPlace y) a b = absurd (a.0 y.place (redundant_place_by g y.place y.rule b.0))
step_is_one g (DropDummy x) (DropDummy y) a b = ap DropDummy (one_dummy g x y a.1 b.1)
step_is_one g (DropDummy x) (Contract u s q) a b = absurd (b.no_redundant_dummy x.trans (redundant_dummy_by g x.trans x.rule a.1.0))
step_is_one g (Contract t r p) (DropPlace y) a b = absurd (a.no_redundant_place y.place (redundant_place_by g y.place y.rule b.0))
step_is_one g (Contract t r p) (DropDummy y) a b = absurd (a.no_redundant_dummy y.trans (redundant_dummy_by g y.trans y.rule b.1.0))
step_is_one g (Contract t r p) (Contract u s q) a b = one_contraction g t u r s p q a b

-- a draft at rest has no plain step
pub rest_has_no_step : RestHasNoStep
rest_has_no_step g rest (DropPlace x) a = rest.no_redundant_place x.place (redundant_place_by g x.place x.rule a.0)
rest_has_no_step g rest (DropDummy x) a = rest.no_redundant_dummy x.trans (redundant_dummy_by g x.trans x.rule a.1.0)
rest_has_no_step g rest (Contract t r p) a = rest.no_candidate t a.cheapest.candidate

-- there is one attempt
pub attempt_is_one : AttemptIsOne
attempt_is_one g [] [] a b = refl
attempt_is_one g [] (y ∷ ys) a b = absurd (rest_has_no_step g a.rests y b.plain.0)
attempt_is_one g (x ∷ xs) [] a b = absurd (rest_has_no_step g b.rests x a.plain.0)
attempt_is_one g (x ∷ xs) (y ∷ ys) a b =
    let e = step_is_one g x y a.plain.0 b.plain.0 in
    let P : Step → Type 0 = λ s. IsAttempt (stepped g s) xs in
    let here : IsAttempt (stepped g x) xs = record { plain = a.plain.1; rests = a.rests } in
    let rest = attempt_is_one (stepped g y) xs ys (subst P e here) (record { plain = b.plain.1; rests = b.rests }) in
    λ i. e i ∷ rest i
