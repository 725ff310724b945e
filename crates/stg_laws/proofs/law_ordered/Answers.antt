use Rattle.stg_laws.proofs.Components.{order_drives_the_same}
use Rattle.stg_laws.proofs.Ordering.{order_renumbers}
use Rattle.stg_laws.proofs.law_ordered.Goals as goal

pub returns-clause-graph : goal.returns-clause-graph
returns-clause-graph c = order_renumbers

pub returns-clause-signals : goal.returns-clause-signals
returns-clause-signals c = order_drives_the_same
