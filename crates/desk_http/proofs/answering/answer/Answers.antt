use Rattle.std.proofs.Common.{List, codes, refl}
use Rattle.std.specs.Option.{option_and_then}
use Rattle.job_keeper.specs.declared.project.Project.{Project}
use Rattle.job_keeper.specs.Projects.{project_names, project_of, without_project}
use Rattle.desk_http.specs.Answering.{failure, found_part, found_project, json, missing_failure, not_allowed, part_of, removed}
use Rattle.desk_http.specs.Replies.{list_body}
use Rattle.desk_http.specs.declared.asked.Asked.TheVariants as asked
use Rattle.desk_http.proofs.AnswerLemmas.{answers}
use Rattle.desk_http.proofs.GivenLemmas.{given_by_bytes}
use Rattle.desk_http.proofs.answering.answer.Goals as goal

pub returns-in_ok-failure-in-BadRequest-clause-given : goal.returns-in_ok-failure-in-BadRequest-clause-given
returns-in_ok-failure-in-BadRequest-clause-given g c = given_by_bytes c.args.asked asked.BadRequest (failure 400 (codes "request")) c.in_ok-failure-in-BadRequest.field-0 c.in-BadRequest.is refl c.in_ok-failure-in-BadRequest.ensures

pub returns-in_ok-missing_failure-in-NoPath-clause-given : goal.returns-in_ok-missing_failure-in-NoPath-clause-given
returns-in_ok-missing_failure-in-NoPath-clause-given g c = given_by_bytes c.args.asked asked.NoPath missing_failure c.in_ok-missing_failure-in-NoPath.field-0 c.in-NoPath.is refl c.in_ok-missing_failure-in-NoPath.ensures

pub returns-in_ok-not_allowed-in-NoMethod-clause-given : goal.returns-in_ok-not_allowed-in-NoMethod-clause-given
returns-in_ok-not_allowed-in-NoMethod-clause-given g c = given_by_bytes c.args.asked (asked.NoMethod c.in-NoMethod.kind) (not_allowed c.in-NoMethod.kind) c.in_ok-not_allowed-in-NoMethod.field-0 c.in-NoMethod.is refl c.in_ok-not_allowed-in-NoMethod.ensures

pub returns-in_ok-failure-in-NoLength-clause-given : goal.returns-in_ok-failure-in-NoLength-clause-given
returns-in_ok-failure-in-NoLength-clause-given g c = given_by_bytes c.args.asked asked.NoLength (failure 411 (codes "length")) c.in_ok-failure-in-NoLength.field-0 c.in-NoLength.is refl c.in_ok-failure-in-NoLength.ensures

pub returns-in_ok-failure-in-TooLarge-clause-given : goal.returns-in_ok-failure-in-TooLarge-clause-given
returns-in_ok-failure-in-TooLarge-clause-given g c = given_by_bytes c.args.asked asked.TooLarge (failure 413 (codes "large")) c.in_ok-failure-in-TooLarge.field-0 c.in-TooLarge.is refl c.in_ok-failure-in-TooLarge.ensures

pub returns-in-List-clause-answers : goal.returns-in-List-clause-answers
returns-in-List-clause-answers g c = answers c.args.asked asked.List (λ (ps : List Project). (json 200 (list_body (project_names ps)), ps)) c.in-List.is (λ ps. refl) _ _ c.list_projects.result c.list_projects.ensures.gives

pub returns-in-Get-clause-answers : goal.returns-in-Get-clause-answers
returns-in-Get-clause-answers g c = answers c.args.asked (asked.Get c.as_slice.result.now) (λ (ps : List Project). (found_project c.as_slice.result.now (project_of c.as_slice.result.now ps), ps)) (cc) (λ ps. refl) _ _ c.get_project.result c.get_project.ensures.gives

pub returns-in-Part-clause-answers : goal.returns-in-Part-clause-answers
returns-in-Part-clause-answers g c = answers c.args.asked (asked.Part c.as_slice-in-Part.result.now c.in-Part.number) (λ (ps : List Project). (found_part (option_and_then (part_of c.in-Part.number) (project_of c.as_slice-in-Part.result.now ps)), ps)) (cc) (λ ps. refl) _ _ c.get_part.result c.get_part.ensures.gives

pub returns-in-Delete-clause-answers : goal.returns-in-Delete-clause-answers
returns-in-Delete-clause-answers g c = answers c.args.asked (asked.Delete c.as_slice-in-Delete.result.now) (λ (ps : List Project). (removed c.as_slice-in-Delete.result.now (project_of c.as_slice-in-Delete.result.now ps), without_project c.as_slice-in-Delete.result.now ps)) (cc) (λ ps. refl) _ _ c.delete_project.result c.delete_project.ensures.gives
