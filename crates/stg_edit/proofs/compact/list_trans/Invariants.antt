use Rattle.std.proofs.Common.{◌≡◌, is_some}
use Rattle.stg_net.specs.Graph.{full_name_at}
use Rattle.stg_net.specs.Ordered.{numbers_where}
use Rattle.stg_edit.proofs.compact.list_trans.Given as goal

abbrev pub invariant-loop-t : goal.invariant-loop-t
invariant-loop-t l = l.list ≡ numbers_where (λ t. is_some (full_name_at l.editor.now t)) l.t
