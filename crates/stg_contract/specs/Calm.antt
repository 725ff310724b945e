-- Calm graphs: in them a look round a dummy tells its verdict.
use Rattle.stg_net.specs.Graph.{Graph}
use Rattle.stg_laws.specs.Conflict.{HasNoAutoConflict}
use Rattle.stg_contract.specs.Verdicts.{IsWithinLimits}

-- no structural auto-conflict, and no number past the limits of a component
pub record IsCalm (g : Graph) : Type 0 where
  pub no_conflict : HasNoAutoConflict g
  pub within : IsWithinLimits g
