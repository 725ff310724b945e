use Rattle.std.proofs.Common.{◌≡◌, false}
use Rattle.std.specs.List.{list_any, range_with_len}
use Rattle.stg_decomp.specs.Settled.{knows_beside}
use Rattle.stg_decomp.proofs.settle.others_know.Given as goal

abbrev pub invariant-loop-j : goal.invariant-loop-j
invariant-loop-j l = list_any (knows_beside l.parts l.i l.name) (range_with_len 0 l.j) ≡ false
