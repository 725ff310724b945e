use Rattle.std.proofs.Common.{ap, ◌∙◌}
use Rattle.std.specs.List.{list_any}
use Rattle.astg_read.specs.Graphs.{same_place}
use Rattle.astg_read.specs.inner.Growth.{GraphLists}
use Rattle.astg_read.specs.inner.Views.{place_view}
use Rattle.astg_read.proofs.GraphLemmas.{place-among}
use Rattle.astg_read.proofs.text_graph.TextGraph.has_place.Goals as goal

pub returns : goal.returns
returns c = c.contains.ensures ∙ place-among c.self.inside.places.keys c.args.place.now ∙ ap (λ (g : GraphLists). list_any (same_place (place_view c.args.place.now)) g.places) c.self.view_is
