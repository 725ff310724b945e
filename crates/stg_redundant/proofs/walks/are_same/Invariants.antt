use Rattle.std.proofs.Common.{◌≡◌}
use Rattle.stg_redundant.specs.inner.Tests.{are_same}
use Rattle.stg_redundant.proofs.walks.are_same.Given as goal

abbrev pub invariant-loop-number : goal.invariant-loop-number
invariant-loop-number l = are_same l.number-iterator l.other ≡ are_same l.fn.one l.fn.other
