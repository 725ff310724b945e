use Rattle.std.proofs.Common.{◌≡◌, None, length, All}
use Rattle.stg_partition.proofs.join.no_takers.Given as goal

abbrev pub invariant-loop-place : goal.invariant-loop-place
invariant-loop-place l = record {
  long : length l.takers.items ≡ l._place;
  none : All (λ taker. taker ≡ None) l.takers.items;
}
