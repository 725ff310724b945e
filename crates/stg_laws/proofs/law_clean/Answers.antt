use Rattle.stg_laws.proofs.ContractionLaws.{contraction_keeps_clean}
use Rattle.stg_laws.proofs.DeletionLaws.{place_deletion_keeps_clean, trans_deletion_keeps_clean}
use Rattle.stg_laws.proofs.law_clean.Goals as goal

pub returns-clause-contraction : goal.returns-clause-contraction
returns-clause-contraction c = contraction_keeps_clean

pub returns-clause-place : goal.returns-clause-place
returns-clause-place c = place_deletion_keeps_clean

pub returns-clause-trans : goal.returns-clause-trans
returns-clause-trans c = trans_deletion_keeps_clean
