use Rattle.std.proofs.Common.{ap, ◌∙◌}
use Rattle.stg_net.specs.Net.{number_of}
use Rattle.astg_read.proofs.SignalLemmas.{position-signals}
use Rattle.astg_read.proofs.signals.Signals.find.Goals as goal

pub returns-in-Some-clause-value : goal.returns-in-Some-clause-value
returns-in-Some-clause-value c =
    c.in-Some.ensures.index ∙ position-signals c.args.name.now c.self.inside.kinds.entries ∙ ap (number_of c.args.name.now) c.self.view_is

pub returns-in-None-clause-value : goal.returns-in-None-clause-value
returns-in-None-clause-value c =
    c.in-None.ensures.index ∙ position-signals c.args.name.now c.self.inside.kinds.entries ∙ ap (number_of c.args.name.now) c.self.view_is
