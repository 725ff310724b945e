use Rattle.std.proofs.Common.{◌≡◌, ◌++◌}
use Rattle.stg_net.specs.Ordered.{listed_below}
use Rattle.io_shelf.specs.Pipeline.{handshake_lines}
use Rattle.io_shelf.proofs.generated.push_handshakes.Given as goal

abbrev pub invariant-loop-i : goal.invariant-loop-i
invariant-loop-i l = l.text ≡ l.fn.text ++ listed_below handshake_lines l.i
