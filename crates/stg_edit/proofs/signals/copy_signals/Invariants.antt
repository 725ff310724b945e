use Rattle.std.proofs.Common.{◌≡◌, take}
use Rattle.stg_edit.proofs.signals.copy_signals.Given as goal

abbrev pub invariant-loop-signal : goal.invariant-loop-signal
invariant-loop-signal l = l.list ≡ take l.signal-index l.signals
