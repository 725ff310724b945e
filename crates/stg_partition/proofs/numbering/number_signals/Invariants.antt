use Rattle.std.proofs.Common.{◌≡◌, ℕ, ◌<◌, length}
use Rattle.stg_partition.specs.inner.Numbers.{group_number, number_at}
use Rattle.stg_partition.proofs.numbering.number_signals.Given as goal

-- the signals so far are numbered
abbrev pub invariant-loop-s : goal.invariant-loop-s
invariant-loop-s l = record {
  long : length l.numbers.items ≡ l.s;
  each : (r : ℕ) → r < l.s → number_at l.numbers.items r ≡ group_number l.groups r;
}
