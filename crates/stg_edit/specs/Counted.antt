-- How many places and arcs a graph has.
use Rattle.std.specs.Prelude.{◌+◌, ℕ, List, filter, length, is_some, sum_by}
use Rattle.stg_net.specs.Graph.{Graph, place_at, place_numbers}
use Rattle.stg_edit.specs.Walks.{taking_trans, giving_trans}

-- the numbers of the live places, in ascending order
abbrev pub live_places : Graph → List ℕ
live_places g = filter (λ p. is_some (place_at g p)) (place_numbers g)

-- how many arcs there are at p, in both directions
abbrev pub count_arcs_at : Graph → ℕ → ℕ
count_arcs_at g p = length (taking_trans g p) + length (giving_trans g p)

-- how many arcs there are
abbrev pub count_arcs : Graph → ℕ
count_arcs g = sum_by (count_arcs_at g) (live_places g)
