use Rattle.stg_derive.proofs.OneStep.{step_is_one, rest_has_no_step, attempt_is_one}
use Rattle.stg_derive.proofs.OneDerivation.{derivation_is_one}
use Rattle.stg_derive.proofs.OneNet.{net_is_one}
use Rattle.stg_derive.proofs.OnePart.{part_is_one}
use Rattle.stg_derive.proofs.OneWear.{wear_is_one}
use Rattle.stg_derive.proofs.laws.law_one_derivation.Goals as goal

pub returns-clause-step : goal.returns-clause-step
returns-clause-step c = step_is_one

pub returns-clause-rest : goal.returns-clause-rest
returns-clause-rest c = rest_has_no_step

pub returns-clause-attempt : goal.returns-clause-attempt
returns-clause-attempt c = attempt_is_one

pub returns-clause-derivation : goal.returns-clause-derivation
returns-clause-derivation c = derivation_is_one

pub returns-clause-net : goal.returns-clause-net
returns-clause-net c = net_is_one

pub returns-clause-part : goal.returns-clause-part
returns-clause-part c = part_is_one

pub returns-clause-wear : goal.returns-clause-wear
returns-clause-wear c = wear_is_one
