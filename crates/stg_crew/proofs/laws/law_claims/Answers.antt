use Rattle.stg_crew.proofs.KeptRule.{start_has_rule, set_keeps_rule, split_keeps_rule, draw_keeps_rule, join_keeps_rule}
use Rattle.stg_crew.proofs.laws.law_claims.Goals as goal

pub returns-clause-start : goal.returns-clause-start
returns-clause-start c = start_has_rule

pub returns-clause-set : goal.returns-clause-set
returns-clause-set c = set_keeps_rule

pub returns-clause-split : goal.returns-clause-split
returns-clause-split c = split_keeps_rule

pub returns-clause-draw : goal.returns-clause-draw
returns-clause-draw c = draw_keeps_rule

pub returns-clause-join : goal.returns-clause-join
returns-clause-join c = join_keeps_rule
