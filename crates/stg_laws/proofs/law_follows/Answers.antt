use Rattle.stg_laws.proofs.ContractionLaws.{contraction_follows}
use Rattle.stg_laws.proofs.law_follows.Goals as goal

pub returns : goal.returns
returns c = contraction_follows
