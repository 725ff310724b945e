use Rattle.stg_decomp.specs.Parts.{nets_of}
use Rattle.desij.proofs.PutLemmas.{log_after, net_broke}
use Rattle.desij.proofs.putting.put_part.Goals as goal

pub returns-in-Err-clause-puts : goal.returns-in-Err-clause-puts
returns-in-Err-clause-puts g c = net_broke (Unit {0}) (Unit {0}) c.args.made.now.spec.net (nets_of c.args.made.now.answer.parts) c.args.made.now.answer.parts c.args.k c.args.steps c.in-Err.error _ _ c.in-Err.ensures.puts

pub returns-then-steps-clause-puts : goal.returns-then-steps-clause-puts
returns-then-steps-clause-puts g c = log_after c.args.made.now.spec.net (nets_of c.args.made.now.answer.parts) c.args.made.now.answer.parts c.args.k c.args.steps c.put_log.result _ _ _ c.if-steps.true c.requires.there c.in-Ok.ensures.puts c.put_net.ensures.cause.later c.put_log.ensures.puts
