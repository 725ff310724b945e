use Rattle.std.proofs.Common.{arith}
use Rattle.stg_crew.proofs.Tables.{few_at_end, each_at_end}
use Rattle.stg_crew.proofs.claims.close_claims.Goals as goal

pub overflow_cast-result : goal.overflow_cast-result
overflow_cast-result c =
    let few = few_at_end c.args.seat.seat.id c.args.seat.seat.me.0 _ _ c.word-count.result c.close_with-closed.ensures.values.2 c.word-count.ensures c.requires.collecting in
    omega (arith, few)

pub returns : goal.returns
returns c = each_at_end c.args.seat.seat.id c.args.seat.seat.me.0 _ _ c.word-count.result c.close_with-closed.ensures.values.2 c.word-count.ensures c.requires.collecting c.requires.all
