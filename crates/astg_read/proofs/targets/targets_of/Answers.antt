use Rattle.std.proofs.Common.{◌∙◌, arith}
use Rattle.astg_read.proofs.TargetLemmas.{targets-preserved}
use Rattle.astg_read.proofs.targets.targets_of.Goals as goal

pub loop-rest-preserved : goal.loop-rest-preserved
loop-rest-preserved c =
    targets-preserved c.loop-rest.targets c.push.new.self c.front-count.result.0 c.loop-rest.rest.now c.front-count.result.1 (c.in_ok-push.ensures.ok) c.front-count.ensures.target c.front-count.ensures.count (grind arith)
    ∙ c.loop-rest.invariant
