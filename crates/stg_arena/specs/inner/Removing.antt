-- The lists in which a place or a transition gets the moment of its removal.
use Rattle.std.specs.Prelude.{ℕ, List, set}
use Rattle.stg_arena.specs.declared.end.End.{End}
use Rattle.stg_arena.specs.declared.end.End.TheVariants.{Place, Trans}
use Rattle.stg_arena.specs.declared.cell.Spot.{Spot}
use Rattle.stg_arena.specs.ArenaView.{spot_at}

-- the places, where the node k gets the moment m of its removal
abbrev pub places_removed_at : End → ℕ → ℕ → List Spot → List Spot
places_removed_at Place k m places = set places k (record (spot_at places k) { removed_at = m })
places_removed_at Trans k m places = places

-- the same for the transitions
abbrev pub trans_removed_at : End → ℕ → ℕ → List ℕ → List ℕ
trans_removed_at Place k m trans = trans
trans_removed_at Trans k m trans = set trans k m
