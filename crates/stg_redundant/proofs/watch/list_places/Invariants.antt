use Rattle.std.proofs.Common.{◌≡◌, is_some}
use Rattle.stg_net.specs.Graph.{place_at}
use Rattle.stg_net.specs.Ordered.{numbers_where}
use Rattle.stg_redundant.proofs.watch.list_places.Given as goal

abbrev pub invariant-loop-p : goal.invariant-loop-p
invariant-loop-p l = l.list.items ≡ numbers_where (λ p. is_some (place_at l.editor.now p)) l.p
