use Rattle.std.proofs.Common.{◌≡◌, ◌++◌}
use Rattle.stg_net.specs.Ordered.{listed_below}
use Rattle.astg_write.specs.ComponentText.{place_line}
use Rattle.astg_write.proofs.graph.push_place_lines.Given as goal

abbrev pub invariant-loop-place : goal.invariant-loop-place
invariant-loop-place l = l.text ≡ l.initial.text ++ listed_below (place_line l.prefix l.net) l.place
