use Rattle.std.proofs.Common.{length, inl, ap, arith}
use Rattle.stg_net.specs.Graph.{takes}
use Rattle.stg_edit.proofs.Counted.{weighted_few}
use Rattle.edit_measure.proofs.count.count_takes.Goals as goal

pub count-requires-clause-fits : goal.count-requires-clause-fits
count-requires-clause-fits c =
    let g = c.args.editor.now.now in
    inl (omega (arith, c.takes.ensures.draft.places_fit, ap length c.takes.ensures.value, weighted_few (length g.places) (takes g c.args.t)))

pub overflow_cast-result : goal.overflow_cast-result
overflow_cast-result c =
    let g = c.args.editor.now.now in
    omega (arith, c.takes.ensures.draft.places_fit, c.count.ensures.bound, ap length c.takes.ensures.value, weighted_few (length g.places) (takes g c.args.t))
