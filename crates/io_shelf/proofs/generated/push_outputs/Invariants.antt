use Rattle.std.proofs.Common.{◌≡◌, ◌++◌}
use Rattle.stg_net.specs.Ordered.{listed_below}
use Rattle.io_shelf.specs.Pipeline.{output_word}
use Rattle.io_shelf.proofs.generated.push_outputs.Given as goal

abbrev pub invariant-loop-i : goal.invariant-loop-i
invariant-loop-i l = l.text ≡ l.fn.text ++ listed_below output_word l.i
