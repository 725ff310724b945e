-- What is answered, from reply and projects.
use Rattle.std.proofs.Common.{◌≡◌, ℕ, Bool, true, false, cond, not, List, [], ◌∷◌, Option, None, Some, Result, Ok, Err, IfSome, refl, sym, subst, ap, ◌∙◌}
use Rattle.std.proofs.lemmas.Option.{none-some}
use Rattle.job_keeper.specs.declared.project.Project.{Project}
use Rattle.job_keeper.specs.declared.keeper.KeepError.{KeepError}
use Rattle.job_keeper.specs.Projects.{is_called, project_of, without_project}
use Rattle.desk_http.specs.Answering.{Answer, IsAnswerTo, IsPutAnswer, added, missing_failure, removed, standing}
use Rattle.desk_http.specs.Making.{Makes}
use Rattle.desk_http.specs.Serving.{Leaves}
use Rattle.desk_http.specs.declared.asked.Asked.{Asked}
use Rattle.desk_http.specs.declared.asked.Asked.TheVariants as asked
use Rattle.desk_http.specs.declared.making.Made.{Made}
use Rattle.desk_http.specs.declared.reply.Reply.{Reply}
use Rattle.desk_http.specs.inner.Steps.{AddsAll, AnswersAll, GivesAnswer, IsFreeName}

-- where no project has the name, all stay
pub without_missing : (name : List ℕ) (ps : List Project) → project_of name ps ≡ None → without_project name ps ≡ ps
without_missing name [] none = refl
without_missing name (p ∷ ps) none = by (is_called name p) none (without_missing name ps)
  where
    by : (b : Bool) → cond b (Some p) (project_of name ps) ≡ None → (project_of name ps ≡ None → without_project name ps ≡ ps) → cond (not b) (p ∷ without_project name ps) (without_project name ps) ≡ p ∷ ps
    by true none rest = absurd (none-some p (sym none))
    by false none rest = ap (λ (qs : List Project). p ∷ qs) (rest none)

-- a DELETE of a name that no project has
pub gone_already : (name : List ℕ) (reply : Reply) (old new : Option (List Project)) → reply ≡ missing_failure → IfSome old (λ ps. project_of name ps ≡ None) → new ≡ old → GivesAnswer (λ ps. (removed name (project_of name ps), without_project name ps)) old new (Ok reply)
gone_already name reply old new is none same projects told =
    let nobody : project_of name projects ≡ None = subst (λ (o : Option (List Project)). IfSome o (λ ps. project_of name ps ≡ None)) told none in
    (is ∙ ap (removed name) (sym nobody), same ∙ told ∙ ap (λ (ps : List Project). Some ps) (sym (without_missing name projects nobody)))

-- an answer that is told by a function
pub answers : (asked a : Asked) (f : List Project → Answer) → asked ≡ a → ((projects : List Project) → IsAnswerTo a projects (f projects)) → (old new : Option (List Project)) (result : Result Reply KeepError) → GivesAnswer f old new result → AnswersAll asked old new result
answers asked a f same is old new (Ok reply) gives = λ projects told. record {
  after = (f projects).1;
  is = (gives projects told).1;
  answers = subst (λ (b : Asked). IsAnswerTo b projects (reply, (f projects).1)) (sym same) (subst (λ (r : Reply). IsAnswerTo a projects (r, (f projects).1)) (sym (gives projects told).0) (is projects));
}
answers asked a f same is old new (Err e) gives = gives

-- a PUT of a name that a project has
pub put_stands : (name text : List ℕ) (p : Project) (reply : Reply) (old new : Option (List Project)) → reply ≡ standing name p text → new ≡ old → IfSome old (λ ps. Some p ≡ project_of name ps) → AnswersAll (asked.Put name text) old new (Ok reply)
put_stands name text p reply old new is same found projects told = record {
  after = projects;
  is = same ∙ told;
  answers = subst (λ (o : Option Project). IsPutAnswer name text o projects (reply, projects)) here (ap (λ (r : Reply). (r, projects)) is);
}
  where
    here : Some p ≡ project_of name projects
    here = subst (λ (o : Option (List Project)). IfSome o (λ ps. Some p ≡ project_of name ps)) told found

-- a PUT of a name that none has
pub put_adds : (name text : List ℕ) (before old new : Option (List Project)) (result : Result Reply KeepError) → old ≡ before → IfSome before (λ ps. None ≡ project_of name ps) → AddsAll name text old new result → AnswersAll (asked.Put name text) before new result
put_adds name text before old new (Ok reply) same free adds = λ projects told.
    let answer : Answer = added name text adds.0 projects in
    let gives = adds.2 projects (same ∙ told) in
    let none : None ≡ project_of name projects = subst (λ (o : Option (List Project)). IfSome o (λ ps. None ≡ project_of name ps)) told free in
    record {
      after = answer.1;
      is = gives.1;
      answers = subst (λ (o : Option Project). IsPutAnswer name text o projects (reply, answer.1)) none (record { made = adds.0; makes = adds.1; is = ap (λ (r : Reply). (r, answer.1)) gives.0 });
    }
put_adds name text before old new (Err e) same free adds = adds ∙ same
