-- What a reply leaves of a keeper, step by step.
use Rattle.std.specs.Prelude.{◌≡◌, ◌≤◌, ℕ, false, List, Option, None, Some, Result, Ok, Err, IsErrOf}
use Rattle.io_shelf.specs.Outside.{Rose}
use Rattle.job_keeper.specs.declared.project.Project.{Project}
use Rattle.job_keeper.specs.declared.keeper.KeepError.{KeepError}
use Rattle.job_keeper.specs.declared.keeper.KeepError.TheVariants as keep_error
use Rattle.job_keeper.specs.Keeping.{SeenKeeper}
use Rattle.job_keeper.specs.Projects.{project_of}
use Rattle.desk_http.specs.Answering.{Answer, added}
use Rattle.desk_http.specs.Making.{Makes}
use Rattle.desk_http.specs.Serving.{Leaves, StaysSure}
use Rattle.desk_http.specs.declared.asked.Asked.{Asked}
use Rattle.desk_http.specs.declared.making.Made.{Made}
use Rattle.desk_http.specs.declared.reply.Reply.{Reply}

-- the keeper stays as sure as it was, and an answer fails only where its count of faults rose
pub record IsCaused {T : Type 0} (old new : SeenKeeper) (result : Result T KeepError) : Type 0 where
  pub sure : StaysSure old new
  pub failed : IsErrOf result keep_error.Failed → Rose old.faults new.faults

-- where the projects are told, reply and projects are this answer, and an error leaves the projects
abbrev pub GivesAnswer : (List Project → Answer) → Option (List Project) → Option (List Project) → Result Reply KeepError → Type 0
GivesAnswer answer old new (Ok reply) =
    (projects : List Project) → old ≡ Some projects
    → (reply ≡ (answer projects).0) × (new ≡ Some (answer projects).1)
GivesAnswer answer old new (Err e) = new ≡ old

-- where the projects are told, reply and projects answer what was asked, and an error leaves them
abbrev pub AnswersAll : Asked → Option (List Project) → Option (List Project) → Result Reply KeepError → Type 0
AnswersAll asked old new (Ok reply) =
    (projects : List Project) → old ≡ Some projects → Leaves asked reply projects new
AnswersAll asked old new (Err e) = new ≡ old

-- where the projects are told, none has that name
abbrev pub IsFreeName : List ℕ → Option (List Project) → Type 0
IsFreeName name told = (projects : List Project) → told ≡ Some projects → project_of name projects ≡ None

-- where the projects are told, reply and projects answer a PUT of a text under a name that none
-- has, and an error leaves them
abbrev pub AddsAll : List ℕ → List ℕ → Option (List Project) → Option (List Project) → Result Reply KeepError → Type 0
AddsAll name text old new (Ok reply) =
    (made : Made) × Makes text made × GivesAnswer (added name text made) old new (Ok reply)
AddsAll name text old new (Err e) = new ≡ old
