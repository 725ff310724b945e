use Rattle.std.proofs.Common.{◌≡◌, None, Some, IfSome, rules}
use Rattle.job_keeper.specs.Projects.{project_of}
use Rattle.desk_http.specs.Answering.{standing}
use Rattle.desk_http.proofs.AnswerLemmas.{put_adds, put_stands}
use Rattle.desk_http.proofs.GivenLemmas.{given_standing}
use Rattle.desk_http.proofs.answering.put_project.Goals as goal

pub returns-in_ok-standing-in-Some-clause-answers : goal.returns-in_ok-standing-in-Some-clause-answers
returns-in_ok-standing-in-Some-clause-answers g c =
    let is : c.in_ok-standing-in-Some.field-0 ≡ standing c.args.name c.in-Some.project c.args.text = search rules in
    let found : IfSome (g.K.Keeper.seen c.args.keeper.now).projects (λ ps. Some c.in-Some.project ≡ project_of c.args.name ps) = search rules in
    put_stands c.args.name c.args.text c.in-Some.project c.in_ok-standing-in-Some.field-0 _ _ is c.in_ok-project.ensures.kept found

pub returns-in_ok-standing-in-Some-clause-given : goal.returns-in_ok-standing-in-Some-clause-given
returns-in_ok-standing-in-Some-clause-given g c = given_standing c.args.name c.args.text c.in-Some.project c.in_ok-standing-in-Some.field-0 (search rules)

pub returns-in-None-clause-answers : goal.returns-in-None-clause-answers
returns-in-None-clause-answers g c =
    let found : IfSome (g.K.Keeper.seen c.args.keeper.now).projects (λ ps. None ≡ project_of c.args.name ps) = search rules in
    put_adds c.args.name c.args.text _ _ _ c.add_text.result c.in_ok-project.ensures.kept found c.add_text.ensures.adds
