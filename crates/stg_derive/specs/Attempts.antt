-- Attempts: plain steps from a draft on, until there is none.
use Rattle.std.specs.Prelude.{List, [], ◌∷◌, ⊤}
use Rattle.stg_net.specs.Graph.{Graph}
use Rattle.stg_derive.specs.declared.step.Step.{Step}
use Rattle.stg_derive.specs.Steps.{IsPlainStep, IsAtRest, stepped}

-- the draft after all these steps
abbrev pub stepped_all : Graph → List Step → Graph
stepped_all g [] = g
stepped_all g (s ∷ steps) = stepped_all (stepped g s) steps

-- each step is the plain step of the draft to which those before it lead
abbrev pub ArePlainSteps : Graph → List Step → Type 0
ArePlainSteps g [] = ⊤
ArePlainSteps g (s ∷ steps) = IsPlainStep g s × ArePlainSteps (stepped g s) steps

-- these are the plain steps from g on, until there is none
pub record IsAttempt (g : Graph) (steps : List Step) : Type 0 where
  pub plain : ArePlainSteps g steps
  pub rests : IsAtRest (stepped_all g steps)
