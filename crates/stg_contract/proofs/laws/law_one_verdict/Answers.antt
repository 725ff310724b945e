use Rattle.stg_contract.proofs.OneVerdict.{one_verdict}
use Rattle.stg_contract.proofs.laws.law_one_verdict.Goals as goal

pub returns : goal.returns
returns c = one_verdict
