-- What is answered to what is asked, and the projects after it.
use Rattle.std.specs.Prelude.{◌≡◌, ℕ, ◌-◌, ◌==◌, Bool, true, false, List, length, Option, None, Some, codes, if◌then◌else◌, slice_get, IsTrue, ⊤}
use Rattle.std.specs.Option.{option_and_then}
use Rattle.std.specs.Str.{bytes_eq}
use Rattle.job_keeper.specs.declared.project.Project.{Project}
use Rattle.job_keeper.specs.Projects.{is_project_name, project_names, project_of, with_project, without_project}
use Rattle.desk_http.specs.Making.{Makes}
use Rattle.desk_http.specs.Replies.{reply_text, error_body, project_body, removed_body, list_body}
use Rattle.desk_http.specs.declared.routes.Kind.{Kind}
use Rattle.desk_http.specs.declared.routes.Kind.TheVariants as kinds
use Rattle.desk_http.specs.declared.asked.Asked.{Asked}
use Rattle.desk_http.specs.declared.asked.Asked.TheVariants as asked
use Rattle.desk_http.specs.declared.making.Made.{Made}
use Rattle.desk_http.specs.declared.making.Made.TheVariants as made
use Rattle.desk_http.specs.declared.reply.Media.TheVariants as media
use Rattle.desk_http.specs.declared.reply.Reply.{Reply}

-- a reply of that status, whose body is JSON
abbrev pub json : ℕ → List ℕ → Reply
json code body = record { status = code; text = reply_text code media.Json None body }

-- a reply that tells an error
abbrev pub failure : ℕ → List ℕ → Reply
failure code word = json code (error_body word)

-- nothing is there
abbrev pub missing_failure : Reply
missing_failure = failure 404 (codes "missing")

-- memory ran out
abbrev pub memory_failure : Reply
memory_failure = failure 507 (codes "memory")

-- the keeper failed
abbrev pub keeper_failure : Reply
keeper_failure = failure 503 (codes "keeper")

-- the methods of paths of a kind
abbrev pub methods_of : Kind → List ℕ
methods_of kinds.Projects = codes "GET"
methods_of kinds.Project = codes "GET, PUT, DELETE"
methods_of kinds.Part = codes "GET"

-- paths of the kind haven't the method
abbrev pub not_allowed : Kind → Reply
not_allowed kind = record {
  status = 405;
  text = reply_text 405 media.Json (Some (methods_of kind)) (error_body (codes "method"));
}

-- a project of that name with so many parts
abbrev pub about : ℕ → List ℕ → ℕ → Reply
about code name count = json code (project_body name count)

-- a GET of a project, if there is one
abbrev pub found_project : List ℕ → Option Project → Reply
found_project name None = missing_failure
found_project name (Some p) = about 200 name (length p.parts)

-- the text of the k-th part, counted from 1
abbrev pub part_of : ℕ → Project → Option (List ℕ)
part_of k p = if k == 0 then None else slice_get p.parts (k - 1)

-- a GET of a part, if there is one
abbrev pub found_part : Option (List ℕ) → Reply
found_part None = missing_failure
found_part (Some text) = record { status = 200; text = reply_text 200 media.Text None text }

-- a PUT of a name that a project has
abbrev pub standing : List ℕ → Project → List ℕ → Reply
standing name p text =
    if bytes_eq text p.text then about 200 name (length p.parts) else failure 409 (codes "taken")

-- a DELETE, if there is a project
abbrev pub removed : List ℕ → Option Project → Reply
removed name None = missing_failure
removed name (Some p) = json 200 (removed_body name)

-- a reply, and the projects after it
abbrev pub Answer : Type 0
Answer = Reply × List Project

-- a PUT of a name that no project has, by what the text is made into
abbrev pub added : List ℕ → List ℕ → Made → List Project → Answer
added name text (made.Parts parts) projects = (
  about 201 name (length parts),
  with_project (record { name = name; text = text; parts = parts }) projects,
)
added name text (made.Refused body) projects = (json 422 body, projects)

-- this answer comes of what the text is made into
pub record IsAdded (name text : List ℕ) (projects : List Project) (answer : Answer) : Type 0 where
  pub made : Made
  pub makes : Makes text made
  pub is : answer ≡ added name text made projects

-- the answer to a PUT of a text, by the project that has the name
abbrev pub IsPutAnswer : List ℕ → List ℕ → Option Project → List Project → Answer → Type 0
IsPutAnswer name text None projects answer = IsAdded name text projects answer
IsPutAnswer name text (Some p) projects answer = answer ≡ (standing name p text, projects)

-- the bytes of the request alone decide the reply
abbrev pub is_by_bytes : Asked → Bool
is_by_bytes asked.BadRequest = true
is_by_bytes asked.NoPath = true
is_by_bytes (asked.NoMethod kind) = true
is_by_bytes asked.NoLength = true
is_by_bytes asked.TooLarge = true
is_by_bytes asked.List = false
is_by_bytes (asked.Get name) = false
is_by_bytes (asked.Part name k) = false
is_by_bytes (asked.Put name text) = false
is_by_bytes (asked.Delete name) = false

-- the answer to what is asked
abbrev pub IsAnswerTo : Asked → List Project → Answer → Type 0
IsAnswerTo asked.BadRequest projects answer = answer ≡ (failure 400 (codes "request"), projects)
IsAnswerTo asked.NoPath projects answer = answer ≡ (missing_failure, projects)
IsAnswerTo (asked.NoMethod kind) projects answer = answer ≡ (not_allowed kind, projects)
IsAnswerTo asked.NoLength projects answer = answer ≡ (failure 411 (codes "length"), projects)
IsAnswerTo asked.TooLarge projects answer = answer ≡ (failure 413 (codes "large"), projects)
IsAnswerTo asked.List projects answer =
    answer ≡ (json 200 (list_body (project_names projects)), projects)
IsAnswerTo (asked.Get name) projects answer =
    answer ≡ (found_project name (project_of name projects), projects)
IsAnswerTo (asked.Part name k) projects answer =
    answer ≡ (found_part (option_and_then (part_of k) (project_of name projects)), projects)
IsAnswerTo (asked.Put name text) projects answer =
    IsPutAnswer name text (project_of name projects) projects answer
IsAnswerTo (asked.Delete name) projects answer =
    answer ≡ (removed name (project_of name projects), without_project name projects)

-- a reply to what is asked over some projects
pub record IsGiven (asked : Asked) (reply : Reply) : Type 0 where
  pub projects : List Project
  pub after : List Project
  pub answers : IsAnswerTo asked projects (reply, after)

-- the name that is asked for is one
abbrev pub NamesProject : Asked → Type 0
NamesProject (asked.Get name) = IsTrue (is_project_name name)
NamesProject (asked.Part name k) = IsTrue (is_project_name name)
NamesProject (asked.Put name text) = IsTrue (is_project_name name)
NamesProject (asked.Delete name) = IsTrue (is_project_name name)
NamesProject asked.BadRequest = ⊤
NamesProject asked.NoPath = ⊤
NamesProject (asked.NoMethod kind) = ⊤
NamesProject asked.NoLength = ⊤
NamesProject asked.TooLarge = ⊤
NamesProject asked.List = ⊤
