-- The choice of the cheapest candidate.
use Rattle.std.proofs.Common.{◌≡◌, ℕ, ◌≤◌, ◌⊎◌, ◌^◌, ◌-◌, min, refl, subst, inl, inr, arith}
use Rattle.stg_net.specs.Graph.{Graph}
use Rattle.stg_edit.specs.Replacing.{new_places, new_arcs}
use Rattle.stg_contract.specs.Candidates.{IsCandidate}
use Rattle.stg_contract.specs.declared.verdict.Verdict.{Verdict}
use Rattle.stg_contract.specs.declared.verdict.Verdict.TheVariants as verdict
use Rattle.stg_contract.specs.Verdicts.{IsVerdict}
use Rattle.stg_contract.proofs.PlaceSums.{count_arcs-contracted}
use Rattle.stg_derive.proofs.StepEffects.{few_new}

-- a verdict on what may be contracted is a type
pub verdict_yes : (g : Graph) (t : ℕ) (v : Verdict) → IsVerdict g t v → IsCandidate g t → (v ≡ verdict.Type1) ⊎ (v ≡ verdict.Type2)
verdict_yes g t verdict.Type1 r c = inl refl
verdict_yes g t verdict.Type2 r c = inr refl
verdict_yes g t verdict.Loop r c = absurd (omega (arith, c.contractible.contraction.pure_ordinary.pure r.place r.taken, r.given))
verdict_yes g t verdict.Weight r c = elim r.1.above [
  | inl l ↦ absurd (omega (arith, c.contractible.contraction.pure_ordinary.takes_one r.1.place, l))
  | inr l ↦ absurd (omega (arith, c.contractible.contraction.pure_ordinary.gives_one r.1.place, l))
]
verdict_yes g t verdict.Insecure r c = absurd (r.1 c.contractible.contraction.secure)
verdict_yes g t (verdict.Clash a b) r c = absurd (c.contractible.no_conflict a b r.1.clashing.place r.1.clashing.clash.conflict)
verdict_yes g t (verdict.Places n) r c = absurd (omega (arith, r.many_places, c.contractible.few_places))
verdict_yes g t verdict.Large r c = absurd (r.not_within c.contractible.within)

-- so one that isn't type 1 is type 2
pub type2_of : (g : Graph) (t : ℕ) (v : Verdict) → IsVerdict g t v → IsCandidate g t → ¬ (v ≡ verdict.Type1) → IsVerdict g t verdict.Type2
type2_of g t v r c other = elim (verdict_yes g t v r c) [
  | inl e ↦ absurd (other e)
  | inr e ↦ subst (IsVerdict g t) e r
]

-- the number of new places of what may be contracted is told
pub told_places : (g : Graph) (t : ℕ) → g.first_places ≤ 4064 → IsCandidate g t → min (new_places g t) (2 ^ 32 - 1) ≡ new_places g t
told_places g t first c = omega (arith, few_new g t, c.contractible.few_places, first)

-- and so is that of new arcs
pub told_arcs : (g : Graph) (t : ℕ) → IsCandidate g t → min (new_arcs g t) (2 ^ 32 - 1) ≡ new_arcs g t
told_arcs g t c = omega (arith, count_arcs-contracted g t, c.contractible.within.arcs)
