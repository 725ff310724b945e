use Rattle.std.proofs.Common.{◌≡◌, drop}
use Rattle.job_keeper.specs.inner.Clear.{are_clear}
use Rattle.job_keeper.proofs.project_list.are_clear.Given as goal

abbrev pub invariant-loop-i : goal.invariant-loop-i
invariant-loop-i l = are_clear (drop l.i l.projects) ≡ are_clear l.projects
