use Rattle.stg_laws.proofs.KnownSignals.{known_closes}
use Rattle.stg_laws.proofs.law_known.Goals as goal

pub returns : goal.returns
returns c = known_closes
