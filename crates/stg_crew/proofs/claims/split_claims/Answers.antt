use Rattle.std.proofs.Common.{arith}
use Rattle.stg_crew.proofs.Tables.{split_allowed}
use Rattle.stg_crew.proofs.claims.split_claims.Goals as goal

pub split_seat-requires : goal.split_seat-requires
split_seat-requires c = (c.requires.of, omega (arith, c.args.claims.now.sized.0), split_allowed c.args.seat.now.seat.id c.args.seat.now.seat.me.0 c.requires.collecting c.requires.room)
