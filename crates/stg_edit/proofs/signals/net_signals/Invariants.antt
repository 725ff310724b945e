use Rattle.std.proofs.Common.{◌≡◌, map, take}
use Rattle.stg_edit.specs.Compacted.{net_signal}
use Rattle.stg_edit.proofs.signals.net_signals.Given as goal

abbrev pub invariant-loop-s : goal.invariant-loop-s
invariant-loop-s l = l.list ≡ map (net_signal l.signals l.own) (take l.s-index l.kept)
