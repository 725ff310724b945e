use Rattle.std.proofs.Common.{length, ap, arith}
use Rattle.stg_net.specs.Graph.{takes, gives}
use Rattle.stg_edit.proofs.Counted.{weighted_few}
use Rattle.stg_contract.proofs.walks.trans_at.Goals as goal

pub returns-then-take-clause-short : goal.returns-then-take-clause-short
returns-then-take-clause-short c = omega (arith, c.takers.ensures.draft.trans_fit, ap length c.takers.ensures.value, weighted_few (length c.args.editor.now.now.trans) (λ t. takes c.args.editor.now.now t c.args.p))

pub returns-else-take-clause-short : goal.returns-else-take-clause-short
returns-else-take-clause-short c = omega (arith, c.givers.ensures.draft.trans_fit, ap length c.givers.ensures.value, weighted_few (length c.args.editor.now.now.trans) (λ t. gives c.args.editor.now.now t c.args.p))
