use Rattle.std.proofs.Common.{◌≡◌, drop}
use Rattle.astg_read.specs.Graphs.{same_text_arc}
use Rattle.astg_read.specs.Lists.{has_repeat}
use Rattle.astg_read.specs.inner.Views.{text_arc_views}
use Rattle.astg_read.specs.inner.Growth.{with_text_arcs}
use Rattle.astg_read.proofs.faults.add_text_arcs.Given as goal

abbrev pub invariant-loop-text_arc : goal.invariant-loop-text_arc
invariant-loop-text_arc l = record {
  again : has_repeat same_text_arc l.graph.text_arcs (text_arc_views (drop l.text_arc-index l.text_arcs)) ≡ has_repeat same_text_arc l.initial.graph.text_arcs (text_arc_views l.text_arcs);
  so_far : with_text_arcs l.graph (text_arc_views (drop l.text_arc-index l.text_arcs)) ≡ with_text_arcs l.initial.graph (text_arc_views l.text_arcs);
}
