use Rattle.std.proofs.Common.{◌≡◌, ◌∙◌, drop, ap, arith}
use Rattle.stg_partition.specs.inner.Splits.{least_takers}
use Rattle.stg_partition.proofs.Takers.{are_least_takers}
use Rattle.stg_partition.proofs.splits.take_arcs.Goals as goal

pub returns : goal.returns
returns c =
    let n = c.args.net.now in
    let before = c.args.takers.now in
    let all : c.loop-i.i ≡ 0 = omega arith in
    are_least_takers n before c.loop-i.takers c.arcs-arcs.ensures.net c.requires.long c.requires.none
    (c.loop-i.invariant.takers_are ∙ ap (λ k. least_takers n before (drop k c.arcs-arcs.result.now)) all ∙ ap (least_takers n before) c.arcs-arcs.ensures.arcs)
