-- The laws of derivations: at most one step, attempt, derivation and part.
use Rattle.std.specs.Prelude.{◌≡◌, ℕ, List}
use Rattle.stg_net.specs.Graph.{Graph}
use Rattle.stg_net.specs.Net.{NetLists, IsNet}
use Rattle.stg_laws.specs.PlainGroups.{Group}
use Rattle.stg_edit.specs.Compacted.{IsNetOf}
use Rattle.stg_derive.specs.declared.step.Step.{Step}
use Rattle.stg_derive.specs.declared.part.Restore.{Restore}
use Rattle.stg_derive.specs.declared.part.Part.{Part}
use Rattle.stg_derive.specs.Steps.{IsPlainStep, IsAtRest}
use Rattle.stg_derive.specs.Attempts.{IsAttempt}
use Rattle.stg_derive.specs.Derivations.{IsPlainDerivation, IsDerivedPart}
use Rattle.stg_derive.specs.Undoing.{IsExactlyWorn}

-- a draft has at most one plain step
abbrev pub StepIsOne : Type 0
StepIsOne = (g : Graph) (r s : Step) → IsPlainStep g r → IsPlainStep g s → r ≡ s

-- a draft at rest has no plain step
abbrev pub RestHasNoStep : Type 0
RestHasNoStep = (g : Graph) → IsAtRest g → (s : Step) → ¬ IsPlainStep g s

-- at most one attempt begins with a draft
abbrev pub AttemptIsOne : Type 0
AttemptIsOne = (g : Graph) (steps others : List Step)
    → IsAttempt g steps → IsAttempt g others → steps ≡ others

-- a net with these signals known has at most one derivation: its records and its steps
abbrev pub DerivationIsOne : Type 0
DerivationIsOne = (n : NetLists) (known : List ℕ) (restored restored_too : List Restore)
    (steps steps_too : List Step) → IsPlainDerivation n known restored steps
    → IsPlainDerivation n known restored_too steps_too
    → (restored ≡ restored_too) × (steps ≡ steps_too)

-- a draft has at most one net
abbrev pub NetIsOne : Type 0
NetIsOne = (n : NetLists) (g : Graph) (own : List ℕ) (a b : NetLists) → IsNet a → IsNet b
    → IsNetOf n.signals g own a → IsNetOf n.signals g own b → a ≡ b

-- two parts are the same but for their wear
pub record AreSameParts (a b : Part) : Type 0 where
  pub net : a.net ≡ b.net
  pub own : a.own ≡ b.own
  pub known : a.known ≡ b.known
  pub restored : a.restored ≡ b.restored
  pub steps : a.steps ≡ b.steps

-- a group has at most one part
abbrev pub PartIsOne : Type 0
PartIsOne = (n : NetLists) (group : Group) (a b : Part) → IsNet a.net → IsNet b.net
    → IsDerivedPart n group a → IsDerivedPart n group b → AreSameParts a b

-- and one wear
abbrev pub WearIsOne : Type 0
WearIsOne = (n : NetLists) (group : Group) (a b : Part) → IsDerivedPart n group a
    → IsDerivedPart n group b → IsExactlyWorn n group a → IsExactlyWorn n group b → a.wear ≡ b.wear
