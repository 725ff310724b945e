use Rattle.std.proofs.Common.{◌≡◌, map, vec_capacity, vec_len}
use Rattle.std.specs.List.{range_with_len}
use Rattle.stg_arena.specs.EmptyArena.{trans_head}
use Rattle.stg_arena.proofs.empty.push_heads.Given as goal

abbrev pub invariant-loop-trans : goal.invariant-loop-trans
invariant-loop-trans l = record { items : l.heads.items ≡ map trans_head (range_with_len 0 l.trans); len : vec_len l.heads ≡ l.trans; capacity : vec_capacity l.heads ≡ l.room }
