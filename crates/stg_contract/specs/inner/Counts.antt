-- How many arcs there are once a transition is contracted.
use Rattle.std.specs.Prelude.{◌==◌, ◌+◌, ◌&&◌, ℕ, Bool, not, List, length, filter, sum_by, if◌then◌else◌}
use Rattle.std.specs.List.{range_with_len}
use Rattle.stg_net.specs.Graph.{Graph}
use Rattle.stg_edit.specs.Counted.{count_arcs_at}
use Rattle.stg_edit.specs.Walks.{taken_places, given_places}
use Rattle.stg_arena.specs.WalkItems.{weighted}
use Rattle.stg_edit.specs.Replacing.{arcs_of_pair}
use Rattle.stg_contract.specs.inner.Weights.{weight_in, arc_weight}
use Rattle.stg_contract.specs.inner.Tests.{is_kept}

-- whether the number isn't t
abbrev pub is_other : ℕ → ℕ × ℕ → Bool
is_other t x = not (x.0 == t)

-- whether the number isn't t, and has no weight in the list
abbrev pub is_apart : ℕ → List (ℕ × ℕ) → ℕ × ℕ → Bool
is_apart t ys x = not (x.0 == t) && (weight_in x.0 ys == 0)

-- how many numbers but t the list has
abbrev pub count_others : ℕ → List (ℕ × ℕ) → ℕ
count_others t xs = length (filter (is_other t) xs)

-- how many of these have no weight in the other list
abbrev pub count_apart : ℕ → List (ℕ × ℕ) → List (ℕ × ℕ) → ℕ
count_apart t ys xs = length (filter (is_apart t ys) xs)

-- how many transitions but t have an arc of one direction at p or at q
abbrev pub count_either : Bool → Graph → ℕ → ℕ → ℕ → ℕ
count_either take g t p q =
    let both : ℕ → ℕ = λ u. if u == t then 0 else arc_weight take g u p + arc_weight take g u q in
    length (weighted (length g.trans) both)

-- how many arcs the pairs of p with each of these places have
abbrev pub arcs_with_each : Graph → ℕ → ℕ → List (ℕ × ℕ) → ℕ
arcs_with_each g t p qs = sum_by (λ (y : ℕ × ℕ). arcs_of_pair g t (p, y.0)) qs

-- how many arcs the pairs of each of these places with each place after t have
abbrev pub arcs_of_each : Graph → ℕ → List (ℕ × ℕ) → ℕ
arcs_of_each g t ps = sum_by (λ (x : ℕ × ℕ). arcs_with_each g t x.0 (given_places g t)) ps

-- how many arcs the pairs round t have
abbrev pub arcs_round : Graph → ℕ → ℕ
arcs_round g t = arcs_of_each g t (taken_places g t)

-- how many arcs there are at these places
abbrev pub arcs_at_each : Graph → List (ℕ × ℕ) → ℕ
arcs_at_each g xs = sum_by (λ (x : ℕ × ℕ). count_arcs_at g x.0) xs

-- how many arcs there are at the places below n that are kept
abbrev pub arcs_kept_below : Graph → ℕ → ℕ → ℕ
arcs_kept_below g t n = sum_by (count_arcs_at g) (filter (is_kept g t) (range_with_len 0 n))

-- how many arcs there are at the places that are kept
abbrev pub arcs_kept : Graph → ℕ → ℕ
arcs_kept g t = arcs_kept_below g t (length g.places)
