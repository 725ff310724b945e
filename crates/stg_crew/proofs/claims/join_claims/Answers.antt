use Rattle.std.proofs.Common.{arith}
use Rattle.stg_crew.proofs.Tables.{join_allowed}
use Rattle.stg_crew.proofs.claims.join_claims.Goals as goal

pub join_seat-requires : goal.join_seat-requires
join_seat-requires c = (c.requires.of, c.requires.other, c.args.other.empty, omega (arith, c.args.claims.now.sized.0), join_allowed c.args.seat.now.seat.id c.args.seat.now.seat.me.0 c.args.other.seat.id c.args.other.seat.me.0 c.requires.collecting c.requires.worker)
