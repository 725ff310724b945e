use Rattle.std.proofs.Common.{◌≡◌, ◌++◌, drop}
use Rattle.job_keeper.proofs.memory_vault.copied.Given as goal

abbrev pub invariant-loop-project : goal.invariant-loop-project
invariant-loop-project l = l.copies.items ++ drop l.project-index l.projects ≡ l.projects
