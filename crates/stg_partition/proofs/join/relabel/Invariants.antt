use Rattle.std.proofs.Common.{◌≡◌, ℕ, ◌<◌, ◌≤◌, get_or}
use Rattle.stg_partition.specs.inner.Joining.{relabelled_leader}
use Rattle.stg_partition.proofs.join.relabel.Given as goal

abbrev pub invariant-loop-leader : goal.invariant-loop-leader
invariant-loop-leader l = record {
  changed : (s : ℕ) → s < l.leader-index → get_or l.leaders s 0 ≡ relabelled_leader l.from l.to (get_or l.initial.leaders s 0);
  kept : (s : ℕ) → l.leader-index ≤ s → get_or l.leaders s 0 ≡ get_or l.initial.leaders s 0;
}
