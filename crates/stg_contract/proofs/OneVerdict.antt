-- A dummy has one verdict: it passes the tests up to the one that it fails, and that one tells the verdict.
use Rattle.std.proofs.Common.{◌≡◌, ◌<◌, ◌≤◌, ◌-◌, ◌^◌, ◌⊎◌, ℕ, zero, suc, min, refl, sym, ◌∙◌, subst, inl, inr, arith}
use Rattle.std.proofs.lemmas.Bool.{cases_order}
use Rattle.stg_net.specs.Graph.{Graph}
use Rattle.stg_net.specs.Contraction.{contracted}
use Rattle.stg_laws.specs.Conflict.{HasNoAutoConflict}
use Rattle.stg_laws.specs.Secure.{IsPureOrdinary, IsType1, IsSecure}
use Rattle.stg_contract.specs.declared.verdict.Verdict.{Verdict}
use Rattle.stg_contract.specs.declared.verdict.Verdict.TheVariants.{Type1, Type2, Loop, Weight, Insecure, Clash, Places, Large}
use Rattle.stg_contract.specs.Verdicts.{HasLoop, HasWeight, AreLeastClashing, IsWithinLimits, HasSecureContraction, IsContractible, IsVerdict, count_places, most_places}

-- the test that a verdict fails
abbrev stage : Verdict → ℕ
stage Loop = 0
stage Weight = 1
stage Insecure = 2
stage (Clash u v) = 3
stage (Places n) = 4
stage Large = 5
stage Type1 = 6
stage Type2 = 7

-- the numbers of a verdict
abbrev numbers : Verdict → ℕ × ℕ
numbers (Clash u v) = (u, v)
numbers (Places n) = (n, 0)
numbers v = (0, 0)

-- the verdict of these numbers that fails the test
abbrev from_stage : ℕ → ℕ × ℕ → Verdict
from_stage zero x = Loop
from_stage (suc zero) x = Weight
from_stage (suc (suc zero)) x = Insecure
from_stage (suc (suc (suc zero))) x = Clash x.0 x.1
from_stage (suc (suc (suc (suc zero)))) x = Places x.0
from_stage (suc (suc (suc (suc (suc zero))))) x = Large
from_stage (suc (suc (suc (suc (suc (suc zero)))))) x = Type1
from_stage (suc (suc (suc (suc (suc (suc (suc k))))))) x = Type2

from_stage-stage : (v : Verdict) → from_stage (stage v) (numbers v) ≡ v
from_stage-stage Loop = refl
from_stage-stage Weight = refl
from_stage-stage Insecure = refl
from_stage-stage (Clash u v) = refl
from_stage-stage (Places n) = refl
from_stage-stage Large = refl
from_stage-stage Type1 = refl
from_stage-stage Type2 = refl

module _ (g : Graph) (t : ℕ) where
  -- the tests of a dummy, in their order
  abbrev Passes : ℕ → Type 0
  Passes zero = ¬ HasLoop g t
  Passes (suc zero) = ¬ HasWeight g t
  Passes (suc (suc zero)) = IsSecure g t
  Passes (suc (suc (suc zero))) = HasNoAutoConflict (contracted g t)
  Passes (suc (suc (suc (suc zero)))) = count_places (contracted g t) ≤ most_places g
  Passes (suc (suc (suc (suc (suc zero))))) = IsWithinLimits (contracted g t)
  Passes (suc (suc (suc (suc (suc (suc zero)))))) = ¬ IsType1 g t
  Passes (suc (suc (suc (suc (suc (suc (suc k))))))) = ⊥

  fails : (v : Verdict) → IsVerdict g t v → ¬ Passes (stage v)
  fails Loop r p = p r
  fails Weight r p = p r.1
  fails Insecure r p = r.1 p
  fails (Clash u v) r p = p u v r.1.clashing.place r.1.clashing.clash.conflict
  fails (Places n) r p = omega (arith, r.many_places, p)
  fails Large r p = r.not_within p
  fails Type1 r p = p r.1
  fails Type2 r p = p

  pure_passes : IsPureOrdinary g t → ¬ HasLoop g t
  pure_passes pure l = omega (arith, pure.pure l.place l.taken, l.given)

  ordinary_passes : IsPureOrdinary g t → ¬ HasWeight g t
  ordinary_passes pure w = elim w.above [
    | inl h ↦ absurd (omega (arith, h, pure.takes_one w.place))
    | inr h ↦ absurd (omega (arith, h, pure.gives_one w.place))
  ]

  -- what passes the first n tests
  record PassesTo (n : ℕ) : Type 0 where
    pure_ordinary : IsPureOrdinary g t
    secure : 2 < n → IsSecure g t
    no_conflict : 3 < n → HasNoAutoConflict (contracted g t)
    few_places : 4 < n → count_places (contracted g t) ≤ most_places g
    within : 5 < n → IsWithinLimits (contracted g t)
    not_type1 : 6 < n → ¬ IsType1 g t
    high : n < 8

  each_passes : (n k : ℕ) → PassesTo n → k < n → Passes k
  each_passes n zero p l = pure_passes p.pure_ordinary
  each_passes n (suc zero) p l = ordinary_passes p.pure_ordinary
  each_passes n (suc (suc zero)) p l = p.secure l
  each_passes n (suc (suc (suc zero))) p l = p.no_conflict l
  each_passes n (suc (suc (suc (suc zero)))) p l = p.few_places l
  each_passes n (suc (suc (suc (suc (suc zero))))) p l = p.within l
  each_passes n (suc (suc (suc (suc (suc (suc zero)))))) p l = p.not_type1 l
  each_passes n (suc (suc (suc (suc (suc (suc (suc k))))))) p l = omega (arith, l, p.high)

  late : {P : Type 0} (m n : ℕ) → n ≤ m → m < n → P
  late m n low high = absurd (omega (arith, low, high))

  contractible_passes : (n : ℕ) → IsContractible g t → n < 8 → (6 < n → ¬ IsType1 g t) → PassesTo n
  contractible_passes n c high not_type1 = record {
    pure_ordinary = c.contraction.pure_ordinary;
    secure = λ l. c.contraction.secure;
    no_conflict = λ l. c.no_conflict;
    few_places = λ l. c.few_places;
    within = λ l. c.within;
    not_type1 = not_type1;
    high = high;
  }

  secure_passes : HasSecureContraction g t → PassesTo 3
  secure_passes c = record {
    pure_ordinary = c.pure_ordinary;
    secure = λ l. c.secure;
    no_conflict = late 3 3 (omega arith);
    few_places = late 4 3 (omega arith);
    within = late 5 3 (omega arith);
    not_type1 = late 6 3 (omega arith);
    high = omega arith;
  }

  passes_before : (v : Verdict) → IsVerdict g t v → (k : ℕ) → k < stage v → Passes k
  passes_before Loop r k l = absurd (omega (arith, l))
  passes_before Weight r zero l = r.0
  passes_before Weight r (suc k) l = absurd (omega (arith, l))
  passes_before Insecure r zero l = pure_passes r.0
  passes_before Insecure r (suc zero) l = ordinary_passes r.0
  passes_before Insecure r (suc (suc k)) l = absurd (omega (arith, l))
  passes_before (Clash u v) r k l = each_passes 3 k (secure_passes r.0) l
  passes_before (Places n) r k l = each_passes 4 k (record {
    pure_ordinary = r.contraction.pure_ordinary;
    secure = λ l. r.contraction.secure;
    no_conflict = λ l. r.no_conflict;
    few_places = late 4 4 (omega arith);
    within = late 5 4 (omega arith);
    not_type1 = late 6 4 (omega arith);
    high = omega arith;
  }) l
  passes_before Large r k l = each_passes 5 k (record {
    pure_ordinary = r.contraction.pure_ordinary;
    secure = λ l. r.contraction.secure;
    no_conflict = λ l. r.no_conflict;
    few_places = λ l. r.few_places;
    within = late 5 5 (omega arith);
    not_type1 = late 6 5 (omega arith);
    high = omega arith;
  }) l
  passes_before Type1 r k l = each_passes 6 k (contractible_passes 6 r.0 (omega arith) (late 6 6 (omega arith))) l
  passes_before Type2 r k l = each_passes 7 k (contractible_passes 7 r.0 (omega arith) (λ l. r.1)) l

  -- what the numbers of a verdict at a stage are
  abbrev AreNumbers : ℕ → ℕ × ℕ → Type 0
  AreNumbers (suc (suc (suc zero))) x = AreLeastClashing (contracted g t) x.0 x.1
  AreNumbers (suc (suc (suc (suc zero)))) x = x ≡ (min (count_places (contracted g t)) (2 ^ 32 - 1), 0)
  AreNumbers k x = x ≡ (0, 0)

  are_numbers : (v : Verdict) → IsVerdict g t v → AreNumbers (stage v) (numbers v)
  are_numbers Loop r = refl
  are_numbers Weight r = refl
  are_numbers Insecure r = refl
  are_numbers (Clash u v) r = r.1
  are_numbers (Places n) r = λ i. (r.number i, 0)
  are_numbers Large r = refl
  are_numbers Type1 r = refl
  are_numbers Type2 r = refl

  -- two least ones are one
  least_one : (x y : ℕ × ℕ) → AreLeastClashing (contracted g t) x.0 x.1
      → AreLeastClashing (contracted g t) y.0 y.1 → x ≡ y
  least_one x y a b = both (a.least y.0 y.1 b.clashing) (b.least x.0 x.1 a.clashing)
    where
      both : (x.0 < y.0) ⊎ ((x.0 ≡ y.0) × (x.1 ≤ y.1)) → (y.0 < x.0) ⊎ ((y.0 ≡ x.0) × (y.1 ≤ x.1)) → x ≡ y
      both (inl p) (inl q) = absurd (omega (arith, p, q))
      both (inl p) (inr q) = absurd (omega (arith, p, q.0))
      both (inr p) (inl q) = absurd (omega (arith, p.0, q))
      both (inr p) (inr q) = let second : x.1 ≡ y.1 = omega (arith, p.1, q.1) in λ i. (p.0 i, second i)

  one_numbers : (k : ℕ) (x y : ℕ × ℕ) → AreNumbers k x → AreNumbers k y → x ≡ y
  one_numbers (suc (suc (suc zero))) x y a b = least_one x y a b
  one_numbers (suc (suc (suc (suc zero)))) x y a b = a ∙ sym b
  one_numbers k x y a b = a ∙ sym b

  -- a dummy has one verdict
  pub one_verdict : (v w : Verdict) → IsVerdict g t v → IsVerdict g t w → v ≡ w
  one_verdict v w a b = elim (cases_order (stage v) (stage w)) [
    | inl same ↦
        let x = one_numbers (stage w) (numbers v) (numbers w) (subst (λ k. AreNumbers k (numbers v)) same (are_numbers v a)) (are_numbers w b) in
        sym (from_stage-stage v) ∙ (λ i. from_stage (same i) (x i)) ∙ from_stage-stage w
    | inr (inl low) ↦ absurd (fails v a (passes_before w b (stage v) low))
    | inr (inr high) ↦ absurd (fails w b (passes_before v a (stage w) high))
  ]
