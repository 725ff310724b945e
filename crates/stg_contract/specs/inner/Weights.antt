-- Lists of numbers with their weights, as walks give them.
use Rattle.std.specs.Prelude.{ℕ, ◌==◌, Bool, true, false, List, [], ◌∷◌, All, length, if◌then◌else◌}
use Rattle.stg_net.specs.Graph.{Graph, IsPlace, IsTrans, takes, gives}
use Rattle.stg_arena.specs.WalkItems.{weighted}

-- the weight that stands with this number, and 0 where it doesn't stand
abbrev pub weight_in : ℕ → List (ℕ × ℕ) → ℕ
weight_in k [] = 0
weight_in k (x ∷ xs) = if x.0 == k then x.1 else weight_in k xs

-- the numbers are those of live places
abbrev pub ArePlaces : Graph → List (ℕ × ℕ) → Type 0
ArePlaces g xs = All (λ (x : ℕ × ℕ). IsPlace g x.0) xs

-- the numbers are those of live transitions
abbrev pub AreTrans : Graph → List (ℕ × ℕ) → Type 0
AreTrans g xs = All (λ (x : ℕ × ℕ). IsTrans g x.0) xs

-- what t takes from p, or what it gives to p
abbrev pub arc_weight : Bool → Graph → ℕ → ℕ → ℕ
arc_weight true g t p = takes g t p
arc_weight false g t p = gives g t p

-- the transitions that take from p, or those that give to it
abbrev pub trans_round : Bool → Graph → ℕ → List (ℕ × ℕ)
trans_round take g p = weighted (length g.trans) (λ t. arc_weight take g t p)
