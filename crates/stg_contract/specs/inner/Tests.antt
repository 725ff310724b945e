-- The tests of a transition over the lists that walks give.
use Rattle.std.specs.Prelude.{◌==◌, ◌&&◌, ◌||◌, not, ℕ, Bool, true, false, nat_lt, List, [], ◌∷◌, is_some}
use Rattle.std.specs.List.{list_all, list_any}
use Rattle.stg_net.specs.Graph.{Graph, place_at, tokens_at}
use Rattle.stg_net.specs.Contraction.{is_touched}
use Rattle.stg_edit.specs.Walks.{taken_places, given_places, taking_trans, giving_trans}
use Rattle.stg_contract.specs.inner.Weights.{weight_in}

-- whether the number has a weight in the list
abbrev pub is_in : List (ℕ × ℕ) → ℕ × ℕ → Bool
is_in xs x = nat_lt 0 (weight_in x.0 xs)

-- whether no other number than t stands in the list
abbrev pub is_only : ℕ → List (ℕ × ℕ) → Bool
is_only t xs = list_all (λ x. x.0 == t) xs

-- whether each weight is 1
abbrev pub are_ones : List (ℕ × ℕ) → Bool
are_ones xs = list_all (λ x. x.1 == 1) xs

-- whether nothing stands in the list
abbrev pub is_nothing : List (ℕ × ℕ) → Bool
is_nothing [] = true
is_nothing (x ∷ xs) = false

-- whether t takes from a place to which it gives
abbrev pub has_loop : Graph → ℕ → Bool
has_loop g t = list_any (is_in (given_places g t)) (taken_places g t)

-- whether each arc of t has weight 1
abbrev pub is_ordinary : Graph → ℕ → Bool
is_ordinary g t = are_ones (taken_places g t) && are_ones (given_places g t)

-- whether t alone takes from the place
abbrev pub is_sole_taker : Graph → ℕ → ℕ × ℕ → Bool
is_sole_taker g t x = is_only t (taking_trans g x.0)

-- whether t alone gives to the place
abbrev pub is_sole_giver : Graph → ℕ → ℕ × ℕ → Bool
is_sole_giver g t x = is_only t (giving_trans g x.0)

-- whether the place is empty
abbrev pub is_empty : Graph → ℕ × ℕ → Bool
is_empty g x = tokens_at g x.0 == 0

-- whether t alone takes from the places before it
abbrev pub is_type1 : Graph → ℕ → Bool
is_type1 g t = list_all (is_sole_taker g t) (taken_places g t)

-- whether t alone gives to the places after it, and one of these is empty
abbrev pub is_type2 : Graph → ℕ → Bool
is_type2 g t =
    list_all (is_sole_giver g t) (given_places g t) && list_any (is_empty g) (given_places g t)

-- whether p is live and stays, as it isn't touched
abbrev pub is_kept : Graph → ℕ → ℕ → Bool
is_kept g t p = is_some (place_at g p) && not (is_touched g t p)

-- whether p is touched and vanishes, as t gives to nothing or takes from nothing
abbrev pub vanishes : Graph → ℕ → ℕ → Bool
vanishes g t p =
    is_touched g t p && (is_nothing (taken_places g t) || is_nothing (given_places g t))

-- whether p is live and is kept or stands in a pair
abbrev pub is_left : Graph → ℕ → ℕ → Bool
is_left g t p = is_some (place_at g p) && not (vanishes g t p)
