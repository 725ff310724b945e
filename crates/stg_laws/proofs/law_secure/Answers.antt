use Rattle.stg_laws.proofs.ContractionLaws.{contraction_adds_no_run, contraction_keeps_names}
use Rattle.stg_laws.proofs.law_secure.Goals as goal

pub returns-clause-runs : goal.returns-clause-runs
returns-clause-runs c = contraction_adds_no_run

pub returns-clause-names : goal.returns-clause-names
returns-clause-names c = contraction_keeps_names
