use Rattle.std.proofs.Common.{length, ap, arith}
use Rattle.stg_net.specs.Graph.{takes, gives}
use Rattle.stg_edit.proofs.Counted.{weighted_few}
use Rattle.std.proofs.Common.{inl}
use Rattle.stg_contract.proofs.arcs.arcs_at.Goals as goal

pub count-requires-clause-fits : goal.count-requires-clause-fits
count-requires-clause-fits c = inl (omega (arith, c.takers.ensures.draft.trans_fit, ap length c.takers.ensures.value, weighted_few (length c.args.editor.now.now.trans) (λ t. takes c.args.editor.now.now t c.args.p)))

pub count-requires-2-clause-fits : goal.count-requires-2-clause-fits
count-requires-2-clause-fits c = inl (omega (arith, c.takers.ensures.draft.trans_fit, ap length c.givers.ensures.value, weighted_few (length c.args.editor.now.now.trans) (λ t. gives c.args.editor.now.now t c.args.p)))

pub overflow_add-result : goal.overflow_add-result
overflow_add-result c = omega (arith, c.takers.ensures.draft.trans_fit, c.count.ensures.bound, c.count-2.ensures.bound, ap length c.takers.ensures.value, weighted_few (length c.args.editor.now.now.trans) (λ t. takes c.args.editor.now.now t c.args.p), ap length c.givers.ensures.value, weighted_few (length c.args.editor.now.now.trans) (λ t. gives c.args.editor.now.now t c.args.p))
