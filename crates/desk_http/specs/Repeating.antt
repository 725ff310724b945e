-- Requests that are repeated.
use Rattle.std.specs.Prelude.{◌≡◌, ℕ, List, ⊤}
use Rattle.job_keeper.specs.declared.project.Project.{Project}
use Rattle.job_keeper.specs.Projects.{project_of}
use Rattle.desk_http.specs.Answering.{Answer, IsAnswerTo}
use Rattle.desk_http.specs.Asking.{Asks}
use Rattle.desk_http.specs.Serving.{Replies}
use Rattle.desk_http.specs.declared.asked.Asked.{Asked}
use Rattle.desk_http.specs.declared.asked.Asked.TheVariants as asked

-- where a change is asked for, both lists have the same project of its name, or both have none
abbrev pub SameFor : Asked → List Project → List Project → Type 0
SameFor asked.BadRequest before now = ⊤
SameFor asked.NoPath before now = ⊤
SameFor (asked.NoMethod kind) before now = ⊤
SameFor asked.NoLength before now = ⊤
SameFor asked.TooLarge before now = ⊤
SameFor asked.List before now = ⊤
SameFor (asked.Get name) before now = ⊤
SameFor (asked.Part name k) before now = ⊤
SameFor (asked.Put name text) before now = project_of name now ≡ project_of name before
SameFor (asked.Delete name) before now = project_of name now ≡ project_of name before

-- What was answered is asked again, while the project of its name, if one is named, is as the first
-- answer left it. Then the second answer changes nothing.
abbrev pub ChangesOnce : Asked → Type 0
ChangesOnce a =
    (before now : List Project) (first second : Answer) → IsAnswerTo a before first
    → SameFor a first.1 now → IsAnswerTo a now second → second.1 ≡ now

-- whatever is asked
abbrev pub AllChangeOnce : Type 0
AllChangeOnce = (a : Asked) → ChangesOnce a

-- bytes ask for one thing
abbrev pub AsksOne : Type 0
AsksOne = (bytes : List ℕ) (a b : Asked) → Asks bytes a → Asks bytes b → a ≡ b

-- A request was replied to and comes again, while the project of the name that it asks for, if it
-- names one, is as the first reply left it. Then the second reply changes nothing.
abbrev pub RepeatsChangeNothing : Type 0
RepeatsChangeNothing =
    (bytes : List ℕ) (a : Asked) (before now : List Project) (first second : Answer) → Asks bytes a
    → Replies bytes before first → SameFor a first.1 now → Replies bytes now second → second.1 ≡ now

-- A PUT that added a project is asked again, while the project of its name is as the first answer
-- left it. Then it is answered 200.
abbrev pub AddedIsToldAgain : Type 0
AddedIsToldAgain =
    (name text : List ℕ) (before now : List Project) (first second : Answer)
    → IsAnswerTo (asked.Put name text) before first → first.0.status ≡ 201
    → SameFor (asked.Put name text) first.1 now → IsAnswerTo (asked.Put name text) now second
    → second.0.status ≡ 200
