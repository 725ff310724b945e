use Rattle.std.proofs.Common.{rules, sym, subst}
use Rattle.std.proofs.lemmas.Fn.{filter_same}
use Rattle.job_keeper.specs.Projects.{AreProjects}
use Rattle.job_keeper.proofs.ProjectLemmas.{others_are}
use Rattle.job_keeper.proofs.project_list.leave_others.Goals as goal

pub returns-clause-ok : goal.returns-clause-ok
returns-clause-ok c =
    filter_same _ _ _ (λ project b f called. search rules) _ _ c.retain.ensures.filtered

pub returns-clause-are : goal.returns-clause-are
returns-clause-are c =
    subst AreProjects (sym (returns-clause-ok c)) (others_are c.args.name.now c.args.projects.now.items c.requires)
