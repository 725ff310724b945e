use Rattle.std.proofs.Common.{◌≡◌, ◌≤◌, false, get_or, length, vec_capacity}
use Rattle.stg_net.specs.Ordered.{numbers_where}
use Rattle.stg_edit.proofs.signals.list_flagged.Given as goal

-- the numbers so far
abbrev pub invariant-loop-s : goal.invariant-loop-s
invariant-loop-s l = record {
  items : l.numbers.items ≡ numbers_where (λ s. get_or l.flags s false) l.s;
  few : length l.numbers.items ≤ l.s;
  room : vec_capacity l.numbers ≡ vec_capacity l.initial.numbers;
}
