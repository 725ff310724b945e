use Rattle.desij.proofs.PutLemmas.{puts_one}
use Rattle.desij.proofs.putting.put_text.Goals as goal

pub returns-clause-puts : goal.returns-clause-puts
returns-clause-puts g c = puts_one (c.args.name.now, c.args.bytes.now) c.put.result _ _ c.put.ensures.ok c.put.ensures.failed c.put.ensures.no_memory c.put.ensures.cause.failed
