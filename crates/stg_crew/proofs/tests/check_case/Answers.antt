use Rattle.std.proofs.Common.{refl, subst}
use Rattle.stg_net.specs.Initial.{graph_of}
use Rattle.stg_net.specs.Net.{NetLists}
use Rattle.stg_laws.specs.Conflict.{HasNoAutoConflict}
use Rattle.stg_crew.proofs.GroupRanges.{plain_in_range}
use Rattle.stg_crew.proofs.tests.check_case.Goals as goal

pub returns-clause-derivable : goal.returns-clause-derivable
returns-clause-derivable c =
    let P : NetLists → Type 0 = λ n. HasNoAutoConflict (graph_of n) in
    record {
      within = c.requires.within;
      in_range = plain_in_range c.args.spec.net c.args.groups c.requires.groups;
      closed = c.requires.closed;
      no_conflict = subst P c.net.ensures.net (c.in-Ok.ensures.none.0 refl);
    }
