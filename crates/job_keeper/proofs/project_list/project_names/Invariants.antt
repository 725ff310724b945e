use Rattle.std.proofs.Common.{◌≡◌, ◌++◌, drop}
use Rattle.job_keeper.specs.Projects.{project_names}
use Rattle.job_keeper.proofs.project_list.project_names.Given as goal

abbrev pub invariant-loop-project : goal.invariant-loop-project
invariant-loop-project l =
    l.names ++ project_names (drop l.project-index l.projects) ≡ project_names l.projects
