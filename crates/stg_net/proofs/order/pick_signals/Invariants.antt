use Rattle.std.proofs.Common.{◌≡◌, map, take}
use Rattle.stg_net.specs.Net.{signal_at}
use Rattle.stg_net.proofs.order.pick_signals.Given as goal

abbrev pub invariant-loop-s : goal.invariant-loop-s
invariant-loop-s l = l.list ≡ map (signal_at l.signals) (take l.s-index l.order)
