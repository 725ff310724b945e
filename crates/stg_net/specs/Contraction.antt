-- The edits of a graph: the contraction of a transition, and the
-- deletion of a place or of a transition.
use Rattle.std.specs.Prelude.{ℕ, ◌+◌, Bool, List, Option, Some, None, ◌++◌, map, length, filter, flat_map, slice_set, nat_lt, ◌==◌, ◌||◌, if◌then◌else◌}
use Rattle.std.specs.List.{range_with_len}
use Rattle.stg_net.specs.Graph.{Graph, Place, place_at, place_numbers, tokens_at, takes, gives}

-- the places from which t takes, in ascending order
abbrev pub places_before : Graph → ℕ → List ℕ
places_before g t = filter (λ p. nat_lt 0 (takes g t p)) (place_numbers g)

-- the places to which t gives, in ascending order
abbrev pub places_after : Graph → ℕ → List ℕ
places_after g t = filter (λ q. nat_lt 0 (gives g t q)) (place_numbers g)

-- each place before t with each place after t, in ascending
-- order of the first and then of the second
abbrev pub pairs_round : Graph → ℕ → List (ℕ × ℕ)
pairs_round g t = flat_map (λ p. map (λ q. (p, q)) (places_after g t)) (places_before g t)

-- one number for each transition but t, which has 0
abbrev pub each_other : Graph → ℕ → (ℕ → ℕ) → List ℕ
each_other g t weight =
    map (λ u. (if u == t then 0 else weight u)) (range_with_len 0 (length g.trans))

-- the place that stands for p and q once t is contracted: tokens and weights are the sums of theirs
abbrev pub pair_place : Graph → ℕ → ℕ × ℕ → Option Place
pair_place g t (p, q) = Some (record {
  tokens = tokens_at g p + tokens_at g q;
  taken = each_other g t (λ u. takes g u p + takes g u q);
  given = each_other g t (λ u. gives g u p + gives g u q);
})

-- whether t takes from p or gives to it
abbrev pub is_touched : Graph → ℕ → ℕ → Bool
is_touched g t p = nat_lt 0 (takes g t p) || nat_lt 0 (gives g t p)

-- what is left of p once t is contracted
abbrev pub remaining_place : Graph → ℕ → ℕ → Option Place
remaining_place g t p = if is_touched g t p then None else place_at g p

-- the graph in which t is contracted: t and the places around it have gone,
-- and each pair of them has a new place
abbrev pub contracted : Graph → ℕ → Graph
contracted g t = record g {
  places = map (remaining_place g t) (place_numbers g) ++ map (pair_place g t) (pairs_round g t);
  trans = slice_set g.trans t None;
}

-- the graph without the place p and its arcs
abbrev pub without_place : Graph → ℕ → Graph
without_place g p = record g { places = slice_set g.places p None }

-- what is left of a place without the arcs of t
abbrev pub without_arcs_of : ℕ → Option Place → Option Place
without_arcs_of t None = None
without_arcs_of t (Some x) =
    Some (record x { taken = slice_set x.taken t 0; given = slice_set x.given t 0 })

-- the graph without the transition t and its arcs
abbrev pub without_trans : Graph → ℕ → Graph
without_trans g t =
    record g { places = map (without_arcs_of t) g.places; trans = slice_set g.trans t None }
