use Rattle.std.proofs.Common.{◌≡◌, drop}
use Rattle.astg_read.specs.inner.Growth.{with_targets}
use Rattle.astg_read.specs.inner.Views.{text_arc_views}
use Rattle.astg_read.proofs.text_graph.TextGraph.add_targets.Given as goal

abbrev pub invariant-loop-text_arc : goal.invariant-loop-text_arc
invariant-loop-text_arc l = with_targets l.self (text_arc_views (drop l.text_arc-index l.text_arcs)) ≡ with_targets l.initial.self (text_arc_views l.text_arcs)
