use Rattle.std.proofs.Common.{◌≡◌, ◌++◌, map}
use Rattle.stg_net.specs.Builder.{entry_signal}
use Rattle.stg_net.proofs.builder.NetBuilder.finish.Given as goal

abbrev pub invariant-loop-name : goal.invariant-loop-name
invariant-loop-name l = l.signals.items ++ map entry_signal l.name-iterator ≡ map entry_signal l.initial.name-iterator
