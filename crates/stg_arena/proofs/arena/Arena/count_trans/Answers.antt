use Rattle.std.proofs.Common.{arith}
use Rattle.stg_arena.specs.declared.end.End.TheVariants.{Trans}
use Rattle.stg_arena.proofs.arena.Arena.count_trans.Goals as goal

pub overflow_cast-result : goal.overflow_cast-result
overflow_cast-result c = omega (arith, c.self.invariant.arena.laid.sizes Trans)
