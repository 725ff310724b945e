use Rattle.std.proofs.Common.{arith, ap, ◌∙◌}
use Rattle.stg_net.specs.Net.{number_of}
use Rattle.stg_net.specs.Building.{Building}
use Rattle.stg_net.proofs.Names.{position-signals}
use Rattle.stg_net.proofs.builder.NetBuilder.find_signal.Goals as goal

pub overflow_cast-result : goal.overflow_cast-result
overflow_cast-result c = omega (arith, c.in-Some.ensures.within)

pub returns-in-Some : goal.returns-in-Some
returns-in-Some c =
    c.in-Some.ensures.index ∙ position-signals c.args.name.now c.self.inside.signals.entries
    ∙ ap (λ (d : Building). number_of c.args.name.now d.lists.signals) c.self.view_is

pub returns-in-None : goal.returns-in-None
returns-in-None c =
    c.in-None.ensures.index ∙ position-signals c.args.name.now c.self.inside.signals.entries
    ∙ ap (λ (d : Building). number_of c.args.name.now d.lists.signals) c.self.view_is
