use Rattle.std.proofs.Common.{◌≡◌, map}
use Rattle.astg_read.specs.inner.Construction.{AreReady, with_all_arcs}
use Rattle.astg_read.specs.Graphs.{arcs}
use Rattle.astg_read.specs.inner.Views.{place_view, weighed_view}
use Rattle.astg_read.proofs.finish.add_arcs.Given as goal

abbrev pub invariant-loop-ends : goal.invariant-loop-ends
invariant-loop-ends l = record {
  ready : AreReady l.builder l.trans.keys (map place_view l.places.keys) (map weighed_view l.ends-iterator);
  so_far : with_all_arcs l.builder (arcs l.trans.keys (map place_view l.places.keys) (map weighed_view l.ends-iterator)) ≡ with_all_arcs l.initial.builder (arcs l.trans.keys (map place_view l.places.keys) (map weighed_view l.initial.ends-iterator));
}
