-- The numbers that have a weight, each with its weight, as a walk gives them.
use Rattle.std.specs.Prelude.{ℕ, List, filter, map, nat_lt}
use Rattle.std.specs.List.{range_with_len}

-- the numbers from `first` on, `count` of them, that have a weight, each with its weight
abbrev pub weighted_from : (ℕ → ℕ) → ℕ → ℕ → List (ℕ × ℕ)
weighted_from weight first count = filter (λ (x : ℕ × ℕ). nat_lt 0 x.1)
    (map (λ k. (k, weight k)) (range_with_len first count))

-- the numbers below `count` that have a weight, in ascending order, each with its weight
abbrev pub weighted : ℕ → (ℕ → ℕ) → List (ℕ × ℕ)
weighted count weight = weighted_from weight 0 count
