use Rattle.astg_read.proofs.SignalLemmas.{signal-new}
use Rattle.astg_read.proofs.signals.Signals.add_to.Goals as goal

pub add_signal-requires : goal.add_signal-requires
add_signal-requires c = signal-new c.loop-name.builder.lists.signals c.in-Some.name c.in-Some.kind c.next.new.self c.loop-name.name-iterator c.in-Some.ensures.steps c.loop-name.invariant.differ
