use Rattle.std.proofs.Common.{map, ap, sym, ◌∙◌}
use Rattle.astg_read.specs.declared.text_graph.TextPlace.TheVariants as read_place
use Rattle.astg_read.specs.Nodes.{Trans}
use Rattle.astg_read.specs.inner.Growth.{GraphLists, with_between}
use Rattle.astg_read.specs.inner.Views.{node_view, place_view, weighed_view}
use Rattle.astg_read.proofs.GraphLemmas.{places-with_new}
use Rattle.astg_read.proofs.text_graph.TextGraph.add_between.Goals as goal

pub returns-in_ok-insert : goal.returns-in_ok-insert
returns-in_ok-insert c =
    let g = c.self.inside in
    ap (λ ps. record { trans = g.trans.keys; places = ps; text_arcs = map weighed_view g.weights.entries }) (ap (map place_view) c.in_ok-insert.ensures.keys ∙ places-with_new g.places.keys (read_place.Between c.in-Trans-Trans.from c.in-Trans-Trans.to))
    ∙ ap (λ (v : GraphLists). with_between v (Trans c.in-Trans-Trans.from) (Trans c.in-Trans-Trans.to)) c.self.view_is
    ∙ (λ j. with_between c.args.self.now (node_view (sym c.in-Trans-Trans.is-0 j)) (node_view (sym c.in-Trans-Trans.is-1 j)))
