use Rattle.std.proofs.Common.{◌≡◌, Bool, false, Result, Ok}
use Rattle.job_keeper.specs.declared.keeper.KeepError.{KeepError}
use Rattle.desk_http.proofs.AnswerLemmas.{gone_already}
use Rattle.desk_http.proofs.GivenLemmas.{given_missing, given_removed}
use Rattle.desk_http.proofs.answering.delete_project.Goals as goal

pub returns-then-branch-clause-given : goal.returns-then-branch-clause-given
returns-then-branch-clause-given g c = given_removed c.args.name.now c.in_ok-done.done c.in_ok-done.ensures

pub returns-else-branch-clause-gives : goal.returns-else-branch-clause-gives
returns-else-branch-clause-gives g c =
    let no : ◌≡◌ {A = Result Bool KeepError} (Ok c.in_ok-remove.field-0) (Ok false) = cc in
    gone_already c.args.name.now c.in_ok-none.none _ _ c.in_ok-none.ensures (c.in_ok-remove.ensures.missing no) (c.in_ok-remove.ensures.same no)

pub returns-else-branch-clause-given : goal.returns-else-branch-clause-given
returns-else-branch-clause-given g c = given_missing c.args.name.now c.in_ok-none.none c.in_ok-none.ensures
