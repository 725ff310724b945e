use Rattle.std.proofs.Common.{◌≡◌, map, All}
use Rattle.std.specs.List.{range_with_len}
use Rattle.astg_write.specs.Writable.{IsWritable}
use Rattle.stg_decomp.specs.Settled.{settled_part}
use Rattle.stg_decomp.proofs.settle.settle_nets.Given as goal

abbrev pub invariant-loop-i : goal.invariant-loop-i
invariant-loop-i l = record {
  nets : l.nets ≡ map (λ i. (settled_part l.parts i).net) (range_with_len 0 l.i);
  writable : All IsWritable l.nets;
}
