use Rattle.std.proofs.Common.{◌≡◌, ◌++◌, length}
use Rattle.std.specs.Vec.Iter.{into_iter_items}
use Rattle.stg_decomp.specs.inner.Settling.{parts_with_nets}
use Rattle.stg_decomp.proofs.settle.replace_nets.Given as goal

abbrev pub invariant-loop-part : goal.invariant-loop-part
invariant-loop-part l = record {
  parts : l.all ++ parts_with_nets (into_iter_items l.part-iterator.a) (into_iter_items l.part-iterator.b) ≡ parts_with_nets (into_iter_items l.initial.part-iterator.a) (into_iter_items l.initial.part-iterator.b);
  long : length (into_iter_items l.part-iterator.b) ≡ length (into_iter_items l.part-iterator.a);
}
