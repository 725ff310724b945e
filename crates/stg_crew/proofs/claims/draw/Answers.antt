use Rattle.std.proofs.Common.{arith}
use Rattle.stg_crew.proofs.Tables.{draw_allowed}
use Rattle.stg_crew.proofs.claims.draw.Goals as goal

pub fetch_add-requires : goal.fetch_add-requires
fetch_add-requires c = (c.requires.of, omega (arith, c.args.claims.now.sized.0), draw_allowed c.args.claims.now.table.shared.table_id.slots c.args.seat.now.seat.id c.args.seat.now.seat.me c.requires.worker c.requires.goes_on)
