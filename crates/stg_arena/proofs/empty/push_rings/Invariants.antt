use Rattle.std.proofs.Common.{◌≡◌, map, vec_capacity, vec_len}
use Rattle.std.specs.List.{range_with_len}
use Rattle.stg_arena.specs.inner.Links.{lone_link}
use Rattle.stg_arena.proofs.empty.push_rings.Given as goal

abbrev pub invariant-loop-cell : goal.invariant-loop-cell
invariant-loop-cell l = record { items : l.rings.items ≡ map lone_link (range_with_len 0 l.cell); len : vec_len l.rings ≡ l.cell; capacity : vec_capacity l.rings ≡ l.room }
