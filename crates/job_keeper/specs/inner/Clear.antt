-- Projects, tested from the last to the first.
use Rattle.std.specs.Prelude.{Bool, true, ◌&&◌, List, [], ◌∷◌, is_none}
use Rattle.job_keeper.specs.declared.project.Project.{Project}
use Rattle.job_keeper.specs.Projects.{is_project_name, project_of}

-- each name is of its form, and no later project has it
abbrev pub are_clear : List Project → Bool
are_clear [] = true
are_clear (p ∷ ps) = is_project_name p.name && is_none (project_of p.name ps) && are_clear ps
