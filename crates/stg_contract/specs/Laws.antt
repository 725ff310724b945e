-- The laws of verdicts, each for all graphs or nets.
use Rattle.std.specs.Prelude.{◌≡◌, ◌<◌, ℕ, List, All, length}
use Rattle.stg_net.specs.declared.limits.TheConstants.Limits.{PART}
use Rattle.stg_net.specs.Graph.{Graph}
use Rattle.stg_net.specs.Net.{NetLists, IsNet, IsWithin}
use Rattle.stg_net.specs.Initial.{initial, graph_of}
use Rattle.stg_net.specs.Contraction.{contracted, without_place, without_trans}
use Rattle.stg_laws.specs.Conflict.{HasNoAutoConflict}
use Rattle.stg_contract.specs.declared.verdict.Verdict.{Verdict}
use Rattle.stg_contract.specs.Verdicts.{IsContractible, IsVerdict}
use Rattle.stg_contract.specs.Calm.{IsCalm}

-- a dummy has one verdict
abbrev pub VerdictIsOne : Type 0
VerdictIsOne = (g : Graph) (t : ℕ) (v w : Verdict) → IsVerdict g t v → IsVerdict g t w → v ≡ w

-- the initial component of a net within the limits of a component is calm, where the net has no
-- structural auto-conflict
abbrev pub InitialIsCalm : Type 0
InitialIsCalm = (n : NetLists) (known : List ℕ) → IsNet n → IsWithin PART n
    → All (λ s. s < length n.signals) known → HasNoAutoConflict (graph_of n)
    → IsCalm (initial n known)

-- a contraction that the verdict allows leaves a calm graph
abbrev pub ContractionIsCalm : Type 0
ContractionIsCalm = (g : Graph) (t : ℕ) → IsContractible g t → IsCalm (contracted g t)

-- the deletion of a place keeps a calm graph calm
abbrev pub PlaceDeletionKeepsCalm : Type 0
PlaceDeletionKeepsCalm = (g : Graph) (p : ℕ) → IsCalm g → IsCalm (without_place g p)

-- and so does that of a transition
abbrev pub TransDeletionKeepsCalm : Type 0
TransDeletionKeepsCalm = (g : Graph) (t : ℕ) → IsCalm g → IsCalm (without_trans g t)
