use Rattle.stg_laws.proofs.Correctness.{faithful_parts_are_correct}
use Rattle.stg_laws.proofs.law_decomposes.Goals as goal

pub returns : goal.returns
returns c = faithful_parts_are_correct
