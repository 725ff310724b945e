use Rattle.std.proofs.Common.{◌≡◌, ◌++◌}
use Rattle.stg_net.specs.Ordered.{listed_below}
use Rattle.astg_write.specs.ComponentText.{trans_line}
use Rattle.astg_write.proofs.graph.push_trans_lines.Given as goal

abbrev pub invariant-loop-trans : goal.invariant-loop-trans
invariant-loop-trans l = l.text ≡ l.initial.text ++ listed_below (trans_line l.prefix l.net) l.trans
