use Rattle.std.proofs.Common.{◌≡◌}
use Rattle.stg_net.specs.declared.limits.TheConstants.Limits.{PART}
use Rattle.astg_write.proofs.tests.connect_all.Given as goal

abbrev pub invariant-loop-from : goal.invariant-loop-from
invariant-loop-from l = record { limits : l.net.limits ≡ PART; signals : l.net.lists.signals ≡ l.initial.net.lists.signals; trans : l.net.lists.trans ≡ l.initial.net.lists.trans }
