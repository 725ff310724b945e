use Rattle.stg_steps.proofs.OneLog.{log_is_one, bad_line_is_one, text_is_told}
use Rattle.stg_steps.proofs.laws.law_one_log.Goals as goal

pub returns-clause-log : goal.returns-clause-log
returns-clause-log c = log_is_one

pub returns-clause-bad_line : goal.returns-clause-bad_line
returns-clause-bad_line c = bad_line_is_one

pub returns-clause-told : goal.returns-clause-told
returns-clause-told c = text_is_told
