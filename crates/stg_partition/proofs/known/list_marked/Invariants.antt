use Rattle.std.proofs.Common.{◌≡◌, ◌||◌}
use Rattle.stg_net.specs.Component.{is_one_of}
use Rattle.stg_net.specs.Ordered.{numbers_where}
use Rattle.stg_partition.specs.inner.Marked.{mark_at}
use Rattle.stg_partition.proofs.known.list_marked.Given as goal

abbrev pub invariant-loop-s : goal.invariant-loop-s
invariant-loop-s l = l.known ≡ numbers_where (λ s. is_one_of l.own s || mark_at l.marks s) l.s
