-- The paths that targets are.
use Rattle.std.specs.Prelude.{ℕ, Bool, false, ◌&&◌, ◌==◌, nat_lt, List, [], ◌∷◌, length, drop, Option, None, Some, if◌then◌else◌}
use Rattle.std.specs.Option.{option_map}
use Rattle.job_keeper.specs.Projects.{is_project_name}
use Rattle.desk_http.specs.Fields.{read_length}
use Rattle.desk_http.specs.Routes.{from_slash, kind_of}
use Rattle.desk_http.specs.declared.routes.Kind.{Kind}
use Rattle.desk_http.specs.declared.routes.Kind.TheVariants as kinds
use Rattle.desk_http.specs.declared.path.Path.{Path}
use Rattle.desk_http.specs.declared.path.Path.TheVariants as paths

-- the bytes before the first slash (47)
abbrev pub up_to_slash : List ℕ → List ℕ
up_to_slash [] = []
up_to_slash (c ∷ cs) = if c == 47 then [] else c ∷ up_to_slash cs

-- the name in a target: what stands between `/projects/` and the next slash
abbrev pub name_in : List ℕ → List ℕ
name_in target = up_to_slash (drop 10 target)

-- the number in a target: what stands behind the `/parts/` that follows the name
abbrev pub part_number_in : List ℕ → List ℕ
part_number_in target = drop 7 (from_slash (drop 10 target))

-- a zero (48) with other bytes behind it
abbrev pub leads_zero : List ℕ → Bool
leads_zero [] = false
leads_zero (c ∷ cs) = c == 48 && nat_lt 0 (length cs)

-- a number of 1 to 9 digits without a leading zero
abbrev pub read_number : List ℕ → Option ℕ
read_number text = if leads_zero text then None else read_length text

-- the path of a target of that kind, whose name and number have their forms
abbrev pub path_as : Option Kind → List ℕ → Option Path
path_as None target = None
path_as (Some kinds.Projects) target = Some paths.Projects
path_as (Some kinds.Project) target =
    if is_project_name (name_in target) then Some (paths.Project (name_in target)) else None
path_as (Some kinds.Part) target =
    if is_project_name (name_in target)
    then option_map (paths.Part (name_in target)) (read_number (part_number_in target)) else None

-- the path that a target is, byte for byte
abbrev pub path_of : List ℕ → Option Path
path_of target = path_as (kind_of target) target
