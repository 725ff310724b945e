use Rattle.std.proofs.Common.{length, inl, ap, arith}
use Rattle.stg_net.specs.Graph.{gives}
use Rattle.stg_edit.proofs.Counted.{weighted_few}
use Rattle.edit_measure.proofs.count.count_gives.Goals as goal

pub count-requires-clause-fits : goal.count-requires-clause-fits
count-requires-clause-fits c =
    let g = c.args.editor.now.now in
    inl (omega (arith, c.gives.ensures.draft.places_fit, ap length c.gives.ensures.value, weighted_few (length g.places) (gives g c.args.t)))

pub overflow_cast-result : goal.overflow_cast-result
overflow_cast-result c =
    let g = c.args.editor.now.now in
    omega (arith, c.gives.ensures.draft.places_fit, c.count.ensures.bound, ap length c.gives.ensures.value, weighted_few (length g.places) (gives g c.args.t))
