use Rattle.stg_laws.proofs.FeasibleGroups.{plain_feasible, feasible_closed, feasible_few}
use Rattle.stg_laws.proofs.law_feasible.Goals as goal

pub returns-clause-plain : goal.returns-clause-plain
returns-clause-plain c = plain_feasible

pub returns-clause-closed : goal.returns-clause-closed
returns-clause-closed c = feasible_closed

pub returns-clause-few : goal.returns-clause-few
returns-clause-few c = feasible_few
