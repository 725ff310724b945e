use Rattle.std.proofs.Common.{◌≡◌, map, take}
use Rattle.stg_net.specs.Ordered.{with_signal_number}
use Rattle.stg_net.proofs.order.renumber_trans.Given as goal

abbrev pub invariant-loop-name : goal.invariant-loop-name
invariant-loop-name l = l.list ≡ map (with_signal_number l.order) (take l.name-index l.trans)
