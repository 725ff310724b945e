use Rattle.stg_laws.proofs.DeletionLaws.{place_deletion_keeps_runs}
use Rattle.stg_laws.proofs.PlaceDeletion.{structural_deletion_keeps_runs}
use Rattle.stg_laws.proofs.PlaceRules.{rules_are_structural}
use Rattle.stg_laws.proofs.TransDeletion.{dummy_deletion_keeps_names, trans_deletion_adds_no_run}
use Rattle.stg_laws.proofs.law_deletions.Goals as goal

pub returns-clause-structural : goal.returns-clause-structural
returns-clause-structural c = λ g p run redundant. structural_deletion_keeps_runs g p redundant run

pub returns-clause-rules : goal.returns-clause-rules
returns-clause-rules c = rules_are_structural

pub returns-clause-place : goal.returns-clause-place
returns-clause-place c = place_deletion_keeps_runs

pub returns-clause-names : goal.returns-clause-names
returns-clause-names c = dummy_deletion_keeps_names

pub returns-clause-runs : goal.returns-clause-runs
returns-clause-runs c = trans_deletion_adds_no_run
