-- Tables and seats as contracts see them.
use Rattle.std.specs.Prelude.{◌≡◌}
use Rattle.stg_crew.specs.declared.table.Claims.{Claims}
use Rattle.stg_crew.specs.declared.table.ClaimSeat.{ClaimSeat}
use Rattle.stg_crew.specs.declared.view.SeatView.{SeatView}

-- what the seat has seen
abbrev pub view_of : ClaimSeat → SeatView
view_of s = s.seat.me.0

-- the seat is one of this table
abbrev pub IsOf : ClaimSeat → Claims → Type 0
IsOf s c = s.seat.table_id ≡ c.table.shared.table_id
