use Rattle.std.proofs.Common.{map, ap, sym, ◌∙◌}
use Rattle.astg_read.specs.declared.text_graph.TextPlace.TheVariants as read_place
use Rattle.astg_read.specs.Nodes.{Trans, Place}
use Rattle.astg_read.specs.inner.Growth.{GraphLists, with_node}
use Rattle.astg_read.specs.inner.Views.{node_view, place_view, weighed_view}
use Rattle.astg_read.proofs.GraphLemmas.{trans-with_new, places-with_new}
use Rattle.astg_read.proofs.text_graph.TextGraph.add_node.Goals as goal

pub returns-in_ok-insert-in-Trans : goal.returns-in_ok-insert-in-Trans
returns-in_ok-insert-in-Trans c =
    let g = c.self.inside in
    ap (λ ts. record { trans = ts; places = map place_view g.places.keys; text_arcs = map weighed_view g.weights.entries }) (c.in_ok-insert-in-Trans.ensures.keys ∙ trans-with_new g.trans.keys c.in-Trans.trans)
    ∙ ap (λ (v : GraphLists). with_node v (Trans c.in-Trans.trans)) c.self.view_is
    ∙ ap (λ n. with_node c.args.self.now (node_view n)) (sym c.in-Trans.is)

pub returns-in_ok-insert-in-Place : goal.returns-in_ok-insert-in-Place
returns-in_ok-insert-in-Place c =
    let g = c.self.inside in
    ap (λ ps. record { trans = g.trans.keys; places = ps; text_arcs = map weighed_view g.weights.entries }) (ap (map place_view) c.in_ok-insert-in-Place.ensures.keys ∙ places-with_new g.places.keys (read_place.Named c.in-Place.name))
    ∙ ap (λ (v : GraphLists). with_node v (Place c.in-Place.name.now)) c.self.view_is
    ∙ ap (λ n. with_node c.args.self.now (node_view n)) (sym c.in-Place.is)
