use Rattle.std.proofs.Common.{◌≡◌, ◌++◌, drop, filter_map}
use Rattle.astg_read.specs.inner.NoDummies.{without_dummies}
use Rattle.astg_read.specs.Graphs.{text_arc_of}
use Rattle.astg_read.specs.inner.Views.{text_arc_views, target_views}
use Rattle.astg_read.proofs.text_arcs.text_arcs_of.Given as goal

abbrev pub invariant-loop-target : goal.invariant-loop-target
invariant-loop-target l = text_arc_views l.text_arcs ++ filter_map (text_arc_of (without_dummies l.signals) l.source) (target_views (drop l.target-index l.targets)) ≡ filter_map (text_arc_of (without_dummies l.signals) l.source) (target_views l.targets)
