use Rattle.std.proofs.Common.{◌≡◌, ◌++◌}
use Rattle.stg_net.specs.Ordered.{has_kind, numbers_where}
use Rattle.stg_net.proofs.order.push_signals.Given as goal

abbrev pub invariant-loop-s : goal.invariant-loop-s
invariant-loop-s l = l.order ≡ l.initial.order ++ numbers_where (has_kind l.signals l.kind) l.s
