use Rattle.std.proofs.Common.{◌≡◌, ◌++◌, map, drop}
use Rattle.std.specs.List.{enumerate_from}
use Rattle.stg_net.specs.Component.{component_signal}
use Rattle.stg_net.proofs.net.component_signals.Given as goal

abbrev pub invariant-loop-s : goal.invariant-loop-s
invariant-loop-s l =
    l.list ++ map (component_signal l.own l.shared) (enumerate_from l.s (drop l.s l.signals)) ≡ map (component_signal l.own l.shared) (enumerate_from 0 l.signals)
