use Rattle.std.proofs.Common.{◌≡◌, ◌++◌, drop}
use Rattle.astg_write.specs.ComponentText.{spaced_names}
use Rattle.astg_write.proofs.header.push_names.Given as goal

abbrev pub invariant-loop-signal : goal.invariant-loop-signal
invariant-loop-signal l = l.text ++ spaced_names l.kind (drop l.signal-index l.signals) ≡ l.initial.text ++ spaced_names l.kind l.signals
