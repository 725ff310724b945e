-- What is true of each draft of a derivation.
use Rattle.std.specs.Prelude.{◌≤◌}
use Rattle.stg_net.specs.Graph.{Graph}
use Rattle.stg_contract.specs.Verdicts.{count_places, most_places}

-- no more places are live than may be after a contraction
abbrev pub HasFewPlaces : Graph → Type 0
HasFewPlaces g = count_places g ≤ most_places g
