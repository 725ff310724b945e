use Rattle.std.proofs.Common.{arith, ap}
use Rattle.stg_crew.proofs.Tables.{set_allowed}
use Rattle.stg_crew.proofs.claims.claims_for.Goals as goal

pub fetch_add-before-requires : goal.fetch_add-before-requires
fetch_add-before-requires c =
    let made = c.in_ok-table.ensures in
    (made.2, omega (arith, made.0), set_allowed c.in_ok-table.table.shared.table_id.slots c.in_ok-table.seat.id c.in_ok-table.seat.me c.from.result (ap (λ m. m.0) made.4) (omega (arith, c.from.ensures, c.requires)))
