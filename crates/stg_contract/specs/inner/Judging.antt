-- How far a verdict looks, and what it finds.
use Rattle.std.specs.Prelude.{ℕ, Option, Some, None}
use Rattle.std.specs.Bool.{⊤}
use Rattle.stg_net.specs.Graph.{Graph}
use Rattle.stg_contract.specs.declared.reach.Reach.{Reach}
use Rattle.stg_contract.specs.declared.reach.Reach.TheVariants.{Near, Far}
use Rattle.stg_contract.specs.declared.verdict.Verdict.{Verdict}
use Rattle.stg_contract.specs.Verdicts.{IsContractible, IsVerdict}
use Rattle.stg_contract.specs.Calm.{IsCalm}

-- a look that far tells all: near the transition it does where the graph is calm
abbrev pub IsFarEnough : Reach → Graph → Type 0
IsFarEnough Near g = IsCalm g
IsFarEnough Far g = ⊤

-- the verdict that speaks against the contraction of t, or none where t may be contracted
abbrev pub IsReason : Graph → ℕ → Option Verdict → Type 0
IsReason g t None = IsContractible g t
IsReason g t (Some v) = IsVerdict g t v
