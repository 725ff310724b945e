-- Names, projects and files computed.
use Rattle.std.proofs.Common.{◌≡◌, true, false, [], ◌∷◌, ◌++◌, List, ℕ, None, Some, codes, refl}
use Rattle.job_keeper.specs.declared.project.Project.{Project}
use Rattle.job_keeper.specs.Keeping.{Stored, projects_under}
use Rattle.job_keeper.specs.Projects.{is_project_name, project_of, project_names, with_project, without_project}

named : is_project_name (codes "celem") ≡ true
named = refl

of_all_kinds : is_project_name (codes "Az09_-") ≡ true
of_all_kinds = refl

empty : is_project_name [] ≡ false
empty = refl

with_dot : is_project_name (codes "a.g") ≡ false
with_dot = refl

with_slash : is_project_name (codes "a/b") ≡ false
with_slash = refl

with_space : is_project_name (codes "a b") ≡ false
with_space = refl

abbrev sixteen : List ℕ
sixteen = codes "0123456789abcdef"

longest : is_project_name (sixteen ++ sixteen ++ sixteen ++ sixteen) ≡ true
longest = refl

too_long : is_project_name (95 ∷ sixteen ++ sixteen ++ sixteen ++ sixteen) ≡ false
too_long = refl

abbrev celem : Project
celem = record { name = codes "celem"; text = codes "c"; parts = codes "1" ∷ [] }

abbrev vme : Project
vme = record { name = codes "vme"; text = codes "v"; parts = [] }

abbrev old : Project
old = record { name = codes "old"; text = []; parts = [] }

abbrev three : List Project
three = with_project old (celem ∷ vme ∷ [])

in_order : project_names three ≡ codes "celem" ∷ codes "vme" ∷ codes "old" ∷ []
in_order = refl

found : project_of (codes "vme") three ≡ Some vme
found = refl

not_found : project_of (codes "v") three ≡ None
not_found = refl

others : without_project (codes "vme") three ≡ celem ∷ old ∷ []
others = refl

all_others : without_project (codes "new") three ≡ three
all_others = refl

abbrev stored : Stored
stored = record { file = Some (codes "a.db"); projects = old ∷ [] }

own_file : projects_under (Some (codes "a.db")) stored ≡ old ∷ []
own_file = refl

other_file : projects_under (Some (codes "b.db")) stored ≡ []
other_file = refl

no_file : projects_under None stored ≡ []
no_file = refl

in_memory : projects_under None (record { file = None; projects = old ∷ [] }) ≡ old ∷ []
in_memory = refl
