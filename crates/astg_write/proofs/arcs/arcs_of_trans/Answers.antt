use Rattle.std.proofs.Common.{◌∙◌, ◌<◌, List, All, ap, sym, subst}
use Rattle.stg_net.specs.declared.arc.NetArc.{NetArc}
use Rattle.astg_write.specs.ComponentText.{given_text}
use Rattle.astg_write.proofs.PlaceArcs.{in-order, All-slice}
use Rattle.astg_write.proofs.TransArcs.{given-slice}
use Rattle.astg_write.proofs.arcs.arcs_of_trans.Goals as goal

pub arcs_between-requires : goal.arcs_between-requires
arcs_between-requires c =
    let from = c.arcs_before-from.ensures in
    let to = c.arcs_before-to.ensures in
    record { order = in-order (λ (a : NetArc). a.trans) _ _ _ _ from.bound to.bound from.point to.point; ends = to.bound }

pub returns-clause-given : goal.returns-clause-given
returns-clause-given c = λ prefix.
    let from = c.arcs_before-from.ensures in
    let to = c.arcs_before-to.ensures in
    ap (given_text prefix c.args.trans) c.arcs_between.ensures ∙ given-slice _ _ _ _ from.bound to.bound from.point to.point prefix

pub returns-clause-there : goal.returns-clause-there
returns-clause-there c = λ places all.
    let from = c.arcs_before-from.ensures in
    let to = c.arcs_before-to.ensures in
    let P : NetArc → Type 0 = λ a. a.place < places in
    subst (λ (l : List NetArc). All P l) (sym c.arcs_between.ensures) (All-slice (λ (a : NetArc). a.trans) _ _ _ _ from.bound to.bound from.point to.point P all)
