use Rattle.std.proofs.Common.{length, inl, ap, arith}
use Rattle.stg_net.specs.Graph.{takes, gives}
use Rattle.stg_edit.proofs.Counted.{weighted_few}
use Rattle.edit_measure.proofs.count.arcs_at.Goals as goal

pub count-requires-clause-fits : goal.count-requires-clause-fits
count-requires-clause-fits c =
    let g = c.args.editor.now.now in
    inl (omega (arith, c.takers.ensures.draft.trans_fit, ap length c.takers.ensures.value, weighted_few (length g.trans) (λ t. takes g t c.args.p)))

pub count-requires-then-is_place-clause-fits : goal.count-requires-then-is_place-clause-fits
count-requires-then-is_place-clause-fits c =
    let g = c.args.editor.now.now in
    inl (omega (arith, c.givers.ensures.draft.trans_fit, ap length c.givers.ensures.value, weighted_few (length g.trans) (λ t. gives g t c.args.p)))
