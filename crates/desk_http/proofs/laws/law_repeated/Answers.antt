use Rattle.desk_http.proofs.OneAsked.{asks_one}
use Rattle.desk_http.proofs.RepeatLemmas.{added_is_told_again, changes_once, repeats_change_nothing}
use Rattle.desk_http.proofs.laws.law_repeated.Goals as goal

pub returns-clause-one : goal.returns-clause-one
returns-clause-one c = asks_one

pub returns-clause-asked : goal.returns-clause-asked
returns-clause-asked c = changes_once

pub returns-clause-requests : goal.returns-clause-requests
returns-clause-requests c = repeats_change_nothing

pub returns-clause-told : goal.returns-clause-told
returns-clause-told c = added_is_told_again
