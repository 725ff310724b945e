-- Tests over the lists that walks give.
use Rattle.std.specs.Prelude.{◌==◌, ◌&&◌, ℕ, Bool, true, false, not, nat_le, is_some, List, [], ◌∷◌, Option, Some, None, if◌then◌else◌}
use Rattle.std.specs.List.{list_all}
use Rattle.stg_net.specs.Graph.{Graph, place_at, full_name_at, has_signal_of, tokens_at}
use Rattle.stg_edit.specs.Walks.{taken_places, given_places, taking_trans, giving_trans}

-- whether both lists have the same numbers with the same weights
abbrev pub are_same : List (ℕ × ℕ) → List (ℕ × ℕ) → Bool
are_same [] [] = true
are_same [] (y ∷ ys) = false
are_same (x ∷ xs) [] = false
are_same (x ∷ xs) (y ∷ ys) = (x.0 == y.0) && (x.1 == y.1) && are_same xs ys

-- the one number of the list, where its weight is 1
abbrev pub sole_of : List (ℕ × ℕ) → Option ℕ
sole_of [] = None
sole_of (x ∷ []) = if x.1 == 1 then Some x.0 else None
sole_of (x ∷ y ∷ ys) = None

-- the first number of the list
abbrev pub first_of : List (ℕ × ℕ) → Option ℕ
first_of [] = None
first_of (x ∷ xs) = Some x.0

-- the first number of the list that passes the test
abbrev pub first_in : (ℕ → Bool) → List (ℕ × ℕ) → Option ℕ
first_in test [] = None
first_in test (x ∷ xs) = if test x.0 then Some x.0 else first_in test xs

-- whether q is a live place with the arcs of p
abbrev pub has_arcs_of : Graph → ℕ → ℕ → Bool
has_arcs_of g p q = is_some (place_at g q)
    && are_same (taking_trans g p) (taking_trans g q)
    && are_same (giving_trans g p) (giving_trans g q)

-- whether q is another live place with the arcs of p and at most its tokens
abbrev pub is_same_place : Graph → ℕ → ℕ → Bool
is_same_place g p q =
    not (p == q) && is_some (place_at g q) && nat_le (tokens_at g q) (tokens_at g p)
    && are_same (taking_trans g p) (taking_trans g q)
    && are_same (giving_trans g p) (giving_trans g q)

-- whether each transition gives to p what it takes, and p holds as much
abbrev pub is_loop_place : Graph → ℕ → Bool
is_loop_place g p = are_same (taking_trans g p) (giving_trans g p)
    && list_all (λ x. nat_le x.1 (tokens_at g p)) (taking_trans g p)

-- whether t gives back what it takes
abbrev pub is_loop_dummy : Graph → ℕ → Bool
is_loop_dummy g t = are_same (taken_places g t) (given_places g t)

-- whether t is live and its signal isn't known
abbrev pub is_live_dummy : Graph → ℕ → Bool
is_live_dummy g t = is_some (full_name_at g t) && not (has_signal_of g.known (full_name_at g t))

-- whether u is another dummy with the arcs of t
abbrev pub is_same_dummy : Graph → ℕ → ℕ → Bool
is_same_dummy g t u = not (t == u) && is_live_dummy g u
    && are_same (taken_places g t) (taken_places g u)
    && are_same (given_places g t) (given_places g u)
