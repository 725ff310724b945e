use Rattle.std.proofs.Common.{◌≡◌, ◌++◌}
use Rattle.stg_net.specs.Ordered.{listed_below}
use Rattle.astg_write.specs.ComponentText.{entry}
use Rattle.astg_write.proofs.marking.push_entries.Given as goal

abbrev pub invariant-loop-place : goal.invariant-loop-place
invariant-loop-place l = l.text ≡ l.initial.text ++ listed_below (entry l.prefix l.tokens) l.place
