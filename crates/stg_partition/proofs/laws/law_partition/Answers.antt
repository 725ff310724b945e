use Rattle.stg_partition.proofs.Answered.{has_one_answer}
use Rattle.stg_partition.proofs.laws.law_partition.Goals as goal

pub returns : goal.returns
returns c = has_one_answer
