-- Projects and their names.
use Rattle.std.specs.Prelude.{◌≢◌, ℕ, Bool, not, ◌&&◌, ◌||◌, ◌==◌, nat_le, List, [], ◌∷◌, ◌++◌, length, map, Option, find, filter, All, AllPairs, IsTrue}
use Rattle.std.specs.List.{list_all}
use Rattle.std.specs.Str.{bytes_eq}
use Rattle.job_keeper.specs.declared.project.Project.{Project}

-- a digit, a letter, `_` (95) or `-` (45)
abbrev pub is_project_byte : ℕ → Bool
is_project_byte c =
    (nat_le 48 c && nat_le c 57)
    || (nat_le 65 c && nat_le c 90)
    || (nat_le 97 c && nat_le c 122)
    || c == 95
    || c == 45

-- a project's name: 1 to 64 of these
abbrev pub is_project_name : List ℕ → Bool
is_project_name name =
    nat_le 1 (length name) && nat_le (length name) 64 && list_all is_project_byte name

-- projects have different names, all of this form
pub record AreProjects (projects : List Project) : Type 0 where
  pub named : All (λ (p : Project). IsTrue (is_project_name p.name)) projects
  pub distinct : AllPairs (λ (p q : Project). p.name ≢ q.name) projects

-- a project has that name
abbrev pub is_called : List ℕ → Project → Bool
is_called name p = bytes_eq name p.name

-- the project of that name
abbrev pub project_of : List ℕ → List Project → Option Project
project_of name projects = find (is_called name) projects

-- the names in order
abbrev pub project_names : List Project → List (List ℕ)
project_names projects = map (λ (p : Project). p.name) projects

-- the projects with one more, which stands last
abbrev pub with_project : Project → List Project → List Project
with_project project projects = projects ++ project ∷ []

-- the projects of other names, in order
abbrev pub without_project : List ℕ → List Project → List Project
without_project name projects = filter (λ p. not (is_called name p)) projects
