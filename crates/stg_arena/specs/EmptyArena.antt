-- The arena of transitions alone.
use Rattle.std.specs.Prelude.{◌+◌, ℕ, [], map, replicate}
use Rattle.std.specs.List.{range_with_len}
use Rattle.stg_arena.specs.declared.cell.Cell.{Cell}
use Rattle.stg_arena.specs.ArenaView.{Layout, none}

-- the head of the ring of a transition
abbrev pub trans_head : ℕ → Cell
trans_head t = record { place = none; trans = t; take = 0; give = 0 }

-- so many live transitions, no place, no cell but heads, and room for so many places and cells
-- besides
abbrev pub empty_arena : ℕ → ℕ → ℕ → Layout
empty_arena trans places cells = record {
  cells = map trans_head (range_with_len 0 trans);
  places = [];
  trans = replicate trans none;
  removals = [];
  rooms = record { removals = places + trans; cells = trans + places + cells; places = places };
}
