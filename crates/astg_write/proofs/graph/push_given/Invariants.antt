use Rattle.std.proofs.Common.{◌≡◌, ◌++◌, drop}
use Rattle.astg_write.specs.ComponentText.{given_text}
use Rattle.astg_write.proofs.graph.push_given.Given as goal

abbrev pub invariant-loop-arc : goal.invariant-loop-arc
invariant-loop-arc l = l.text ++ given_text l.prefix l.trans (drop l.arc-index l.arcs) ≡ l.initial.text ++ given_text l.prefix l.trans l.arcs
