use Rattle.std.proofs.Common.{◌∙◌, List, ap}
use Rattle.stg_net.specs.declared.arc.NetArc.{NetArc}
use Rattle.astg_write.specs.ComponentText.{takers_of, is_only_given}
use Rattle.astg_write.proofs.PlaceArcs.{in-order, takers-slice, only-slice}
use Rattle.astg_write.proofs.arcs.arcs_of_place.Goals as goal

pub arcs_between-requires : goal.arcs_between-requires
arcs_between-requires c =
    let from = c.arcs_below-from.ensures in
    let to = c.arcs_below-to.ensures in
    record { order = in-order (λ (a : NetArc). a.place) _ _ _ _ from.bound to.bound from.point to.point; ends = to.bound }

pub returns-clause-takers : goal.returns-clause-takers
returns-clause-takers c =
    let from = c.arcs_below-from.ensures in
    let to = c.arcs_below-to.ensures in
    let taken : List NetArc → _ = takers_of c.args.net.now c.args.place in
    ap taken c.arcs_between.ensures ∙ takers-slice _ _ _ _ from.bound to.bound from.point to.point c.args.net.now ∙ ap taken c.arcs-arcs.ensures.arcs

pub returns-clause-given : goal.returns-clause-given
returns-clause-given c =
    let from = c.arcs_below-from.ensures in
    let to = c.arcs_below-to.ensures in
    let given : List NetArc → _ = λ l. is_only_given l c.args.place in
    ap given c.arcs_between.ensures ∙ only-slice _ _ _ _ from.bound to.bound from.point to.point ∙ ap given c.arcs-arcs.ensures.arcs
