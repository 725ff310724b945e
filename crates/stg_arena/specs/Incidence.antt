-- The weights between places and transitions, and those between one of them and the live other
-- ends.
use Rattle.std.specs.Prelude.{ℕ, nat_le, length, ◌&&◌, ◌==◌, List, sum_by, if◌then◌else◌}
use Rattle.stg_arena.specs.declared.end.End.{End}
use Rattle.stg_arena.specs.declared.end.Way.{Way}
use Rattle.stg_arena.specs.declared.end.End.TheVariants.{Place, Trans}
use Rattle.stg_arena.specs.Ends.{other}
use Rattle.stg_arena.specs.ArenaView.{Layout, removed_at}
use Rattle.stg_arena.specs.declared.cell.Cell.{Cell}
use Rattle.stg_arena.specs.RingWalk.{cell_weight}

-- the weight between p and t, of one kind
abbrev pub weight : List Cell → Way → ℕ → ℕ → ℕ
weight cells way p t = sum_by
    (λ a. if (a.place == p) && (a.trans == t) then cell_weight way a else 0) cells

-- the weight between k on one side and j on the other
abbrev pub weight_by : Layout → End → Way → ℕ → ℕ → ℕ
weight_by l Place way k j = weight l.cells way k j
weight_by l Trans way k j = weight l.cells way j k

-- that weight where j is live, and else 0
abbrev pub weight_along : Layout → End → Way → ℕ → ℕ → ℕ
weight_along l b way k j = if nat_le (length l.removals) (removed_at l (other b) j) then weight_by l
    b way k j else 0
