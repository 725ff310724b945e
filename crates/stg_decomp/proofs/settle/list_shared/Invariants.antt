use Rattle.std.proofs.Common.{◌≡◌}
use Rattle.stg_net.specs.Net.{signal_at}
use Rattle.stg_net.specs.Ordered.{numbers_where}
use Rattle.stg_decomp.specs.Settled.{others_know}
use Rattle.stg_decomp.proofs.settle.list_shared.Given as goal

abbrev pub invariant-loop-s : goal.invariant-loop-s
invariant-loop-s l = l.shared ≡ numbers_where (λ s. others_know l.parts l.i (signal_at l.signals s).name) l.s
