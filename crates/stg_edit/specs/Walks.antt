-- The arcs at a transition and at a place, as the walks give them.
use Rattle.std.specs.Prelude.{◌+◌, ℕ, List, length}
use Rattle.stg_net.specs.Graph.{Graph, takes, gives}
use Rattle.stg_arena.specs.WalkItems.{weighted}

-- the places from which t takes
abbrev pub taken_places : Graph → ℕ → List (ℕ × ℕ)
taken_places g t = weighted (length g.places) (takes g t)

-- the places to which t gives
abbrev pub given_places : Graph → ℕ → List (ℕ × ℕ)
given_places g t = weighted (length g.places) (gives g t)

-- the transitions that take from p
abbrev pub taking_trans : Graph → ℕ → List (ℕ × ℕ)
taking_trans g p = weighted (length g.trans) (λ t. takes g t p)

-- the transitions that give to p
abbrev pub giving_trans : Graph → ℕ → List (ℕ × ℕ)
giving_trans g p = weighted (length g.trans) (λ t. gives g t p)

-- how many arcs a place has that has these weights
abbrev pub arcs_below : (ℕ → ℕ) → (ℕ → ℕ) → ℕ → ℕ
arcs_below takes gives count = length (weighted count takes) + length (weighted count gives)
