-- What a safe step keeps: the one thing that each kind of step owes to the meaning of components.
use Rattle.stg_net.specs.Graph.{Graph}
use Rattle.stg_laws.specs.Cuts.{HaveSameNameLists}
use Rattle.stg_laws.specs.Deterministic.{IsClean}
use Rattle.stg_laws.specs.Stgs.{HasDistinctNames}
use Rattle.stg_laws.proofs.Cuts.{SameSignals}

-- h has the name lists of g, is as clean, and its names differ as much
pub record Keeps (g h : Graph) : Type 0 where
  pub names : HaveSameNameLists g h
  pub clean : IsClean g → IsClean h
  pub distinct : HasDistinctNames g → HasDistinctNames h
  pub known : SameSignals h.known g.known
