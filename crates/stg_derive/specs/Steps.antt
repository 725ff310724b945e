-- Plain steps: which step of a draft comes next, and the draft after it.
use Rattle.std.specs.Prelude.{◌≡◌, ℕ, Some}
use Rattle.stg_net.specs.Graph.{Graph}
use Rattle.stg_net.specs.Contraction.{contracted, without_place, without_trans}
use Rattle.stg_laws.specs.RedundantPlaces.{IsRedundantPlace}
use Rattle.stg_laws.specs.RedundantDummies.{IsRedundantDummy}
use Rattle.stg_edit.specs.Replacing.{new_places}
use Rattle.stg_contract.specs.declared.verdict.Verdict.{Verdict}
use Rattle.stg_contract.specs.declared.verdict.Verdict.TheVariants as verdict
use Rattle.stg_contract.specs.Verdicts.{IsVerdict}
use Rattle.stg_contract.specs.Candidates.{IsCandidate, IsCheapest}
use Rattle.stg_redundant.specs.Rules.{IsPlaceFound, IsDummyFound}
use Rattle.stg_derive.specs.declared.step.Secure.{Secure}
use Rattle.stg_derive.specs.declared.step.Secure.TheVariants.{Type1, Type2}
use Rattle.stg_derive.specs.declared.step.Step.{Step}
use Rattle.stg_derive.specs.declared.step.Step.TheVariants.{Contract, DropPlace, DropDummy}

-- the verdict by which a dummy is contracted
abbrev pub verdict_of : Secure → Verdict
verdict_of Type1 = verdict.Type1
verdict_of Type2 = verdict.Type2

-- no place is redundant
abbrev pub HasNoRedundantPlace : Graph → Type 0
HasNoRedundantPlace g = (p : ℕ) → ¬ IsRedundantPlace g p

-- no dummy is redundant
abbrev pub HasNoRedundantDummy : Graph → Type 0
HasNoRedundantDummy g = (t : ℕ) → ¬ IsRedundantDummy g t

-- nothing is redundant, t is the cheapest candidate, its contraction is secure by this type, and it
-- makes that many places
pub record IsNextContraction (g : Graph) (t : ℕ) (secure : Secure) (places : ℕ) : Type 0 where
  pub no_redundant_place : HasNoRedundantPlace g
  pub no_redundant_dummy : HasNoRedundantDummy g
  pub cheapest : IsCheapest g t
  pub secure_by : IsVerdict g t (verdict_of secure)
  pub places_are : places ≡ new_places g t

-- the step comes next: the redundant place of greatest number is deleted; else the redundant dummy
-- of greatest number is; else the cheapest candidate is contracted
abbrev pub IsPlainStep : Graph → Step → Type 0
IsPlainStep g (DropPlace found) = IsPlaceFound g (Some found)
IsPlainStep g (DropDummy found) = HasNoRedundantPlace g × IsDummyFound g (Some found)
IsPlainStep g (Contract t secure places) = IsNextContraction g t secure places

-- no step comes next
pub record IsAtRest (g : Graph) : Type 0 where
  pub no_redundant_place : HasNoRedundantPlace g
  pub no_redundant_dummy : HasNoRedundantDummy g
  pub no_candidate : (t : ℕ) → ¬ IsCandidate g t

-- the draft after the step
abbrev pub stepped : Graph → Step → Graph
stepped g (DropPlace found) = without_place g found.place
stepped g (DropDummy found) = without_trans g found.trans
stepped g (Contract t secure places) = contracted g t
