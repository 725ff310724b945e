use Rattle.std.proofs.Common.{◌≡◌, ◌++◌, drop}
use Rattle.astg_write.specs.ComponentText.{takers_of}
use Rattle.astg_write.proofs.graph.push_takers.Given as goal

abbrev pub invariant-loop-arc : goal.invariant-loop-arc
invariant-loop-arc l = l.text ++ takers_of l.net l.place (drop l.arc-index l.arcs) ≡ l.initial.text ++ takers_of l.net l.place l.arcs
