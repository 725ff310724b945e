use Rattle.desij.proofs.EndLemmas.{accepted_ends}
use Rattle.desij.proofs.run.decompose.Goals as goal
use Rattle.std.specs.Option.{option_copied}
use Rattle.desij.specs.Reading.{inputs}

pub returns-in-Ok-clause-ends : goal.returns-in-Ok-clause-ends
returns-in-Ok-clause-ends g c =
    accepted_ends (inputs c.args.asked.spec.now (option_copied c.args.asked.partition)) c.args.asked.steps c.args.asked.workers c.in-Ok.made.spec c.in-Ok.made.answer.parts c.finish.result _ _ c.in-Ok.ensures.made c.finish.ensures
