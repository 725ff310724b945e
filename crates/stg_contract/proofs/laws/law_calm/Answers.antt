use Rattle.stg_contract.proofs.Calm.{calm-without_place, calm-without_trans}
use Rattle.stg_contract.proofs.InitialCalm.{calm-initial}
use Rattle.stg_contract.proofs.laws.law_calm.Goals as goal

pub returns-clause-initial : goal.returns-clause-initial
returns-clause-initial c = λ n known net within in_range no_conflict. calm-initial n known net within no_conflict

pub returns-clause-place : goal.returns-clause-place
returns-clause-place c = calm-without_place

pub returns-clause-transition : goal.returns-clause-transition
returns-clause-transition c = calm-without_trans
