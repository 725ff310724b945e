use Rattle.std.proofs.Common.{◌≡◌}
use Rattle.stg_net.specs.Net.{signal_at}
use Rattle.stg_net.specs.Graph.{is_among}
use Rattle.stg_net.specs.Ordered.{numbers_where}
use Rattle.stg_edit.proofs.compact.list_signals.Given as goal

abbrev pub invariant-loop-s : goal.invariant-loop-s
invariant-loop-s l = l.list ≡ numbers_where (λ s. is_among l.editor.now.known (signal_at l.editor.signals s).name) l.s
