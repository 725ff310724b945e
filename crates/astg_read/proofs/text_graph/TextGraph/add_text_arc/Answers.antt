use Rattle.std.proofs.Common.{[], ◌∷◌, not, min, length, map, ap, sym, ◌∙◌}
use Rattle.astg_read.specs.Graphs.{arcs}
use Rattle.astg_read.specs.inner.Growth.{GraphLists, with_text_arcs}
use Rattle.astg_read.specs.inner.Views.{text_arc_view, place_view, weighed_view}
use Rattle.astg_read.proofs.Keyed.{entries-new}
use Rattle.astg_read.proofs.GraphLemmas.{found-text_arc, missing-text_arc, arc_total-more}
use Rattle.astg_read.proofs.text_graph.TextGraph.add_text_arc.Goals as goal

pub invariant_of-self-in-None : goal.invariant_of-self-in-None
invariant_of-self-in-None c =
    let g = c.self.inside in
    arc_total-more (map weighed_view g.weights.entries) (text_arc_view c.args.text_arc.now) g.arc_total c.arcs_of.result c.saturating_add-self-inside.result c.self.invariant c.arcs_of.ensures c.saturating_add-self-inside.ensures
    ∙ ap (λ ps. min (length (arcs [] [] ps)) 18446744073709551615)
    (sym (ap (map weighed_view) c.in_ok-insert-in-None.ensures.entries ∙ entries-new _ weighed_view g.weights _ c.args.text_arc.now.weight (sym c.in-None.ensures.index)))

pub returns-in-Some-clause-fresh : goal.returns-in-Some-clause-fresh
returns-in-Some-clause-fresh c =
    ap not (sym (found-text_arc _ c.args.text_arc.now.weight c.self.inside.weights.entries c.args.self.now.text_arcs c.in-Some.field-0 (ap (λ (g : GraphLists). g.text_arcs) c.self.view_is) c.in-Some.ensures.index))

pub returns-in_ok-insert-in-None-clause-fresh : goal.returns-in_ok-insert-in-None-clause-fresh
returns-in_ok-insert-in-None-clause-fresh c =
    ap not (sym (missing-text_arc _ c.args.text_arc.now.weight c.self.inside.weights.entries c.args.self.now.text_arcs (ap (λ (g : GraphLists). g.text_arcs) c.self.view_is) c.in-None.ensures.index))

pub returns-in_ok-insert-in-None-clause-ok : goal.returns-in_ok-insert-in-None-clause-ok
returns-in_ok-insert-in-None-clause-ok c = λ h.
    let g = c.self.inside in
    ap (λ ps. record { trans = g.trans.keys; places = map place_view g.places.keys; text_arcs = ps })
    (ap (map weighed_view) c.in_ok-insert-in-None.ensures.entries ∙ entries-new _ weighed_view g.weights _ c.args.text_arc.now.weight (sym c.in-None.ensures.index))
    ∙ ap (λ (v : GraphLists). with_text_arcs v (text_arc_view c.args.text_arc.now ∷ [])) c.self.view_is
