-- The search for the least two transitions that would clash once a transition is contracted.
use Rattle.std.specs.Prelude.{◌==◌, ◌&&◌, ◌||◌, ℕ, zero, suc, Bool, false, not, nat_lt, min, max, List, [], ◌∷◌, length, Option, Some, None, if◌then◌else◌}
use Rattle.std.specs.Str.{bytes_eq}
use Rattle.stg_net.specs.Graph.{Graph, FullName, full_name_at, has_signal_of}
use Rattle.stg_net.specs.Net.{is_edge}
use Rattle.stg_laws.specs.Conflict.{HasNoAutoConflict}
use Rattle.stg_edit.specs.Walks.{taken_places, given_places, taking_trans}
use Rattle.stg_contract.specs.Verdicts.{AreLeastClashing}
use Rattle.stg_contract.specs.inner.Tests.{is_left}

-- the least two that clash, or none where no two do
abbrev pub IsLeastClashOf : Graph → Option (ℕ × ℕ) → Type 0
IsLeastClashOf g None = HasNoAutoConflict g
IsLeastClashOf g (Some x) = AreLeastClashing g x.0 x.1

-- whether both are there and have one label
abbrev pub is_same_label : Option FullName → Option FullName → Bool
is_same_label (Some x) (Some y) = bytes_eq x.signal y.signal && is_edge x.edge y.edge
is_same_label (Some x) None = false
is_same_label None o = false

-- whether two transitions have one label
abbrev pub share_label : Graph → ℕ → ℕ → Bool
share_label g u v = is_same_label (full_name_at g u) (full_name_at g v)

-- whether the transition is live and its signal is known
abbrev pub is_known : Graph → ℕ → Bool
is_known g u = has_signal_of g.known (full_name_at g u)

-- whether they are two known transitions of one label
abbrev pub are_rivals : Graph → ℕ → ℕ → Bool
are_rivals g u v = not (u == v) && is_known g u && is_known g v && share_label g u v

-- whether x stands before y, by the first number and then by the second
abbrev pub is_lower : ℕ × ℕ → ℕ × ℕ → Bool
is_lower x y = nat_lt x.0 y.0 || (x.0 == y.0) && nat_lt x.1 y.1

-- the lower one of two, where there is one
abbrev pub lower_of : Option (ℕ × ℕ) → Option (ℕ × ℕ) → Option (ℕ × ℕ)
lower_of (Some x) (Some y) = Some (if is_lower x y then x else y)
lower_of (Some x) None = Some x
lower_of None o = o

-- two rivals, the lesser first
abbrev pub ordered_rivals : Graph → ℕ → ℕ → Option (ℕ × ℕ)
ordered_rivals g u v = if are_rivals g u v then Some (min u v, max u v) else None

-- the least of these two and u with each of the others
abbrev pub least_with : Graph → ℕ → Option (ℕ × ℕ) → List (ℕ × ℕ) → Option (ℕ × ℕ)
least_with g u least [] = least
least_with g u least (v ∷ vs) = least_with g u (lower_of (ordered_rivals g u v.0) least) vs

-- the least of these two and each of one list with each of the other
abbrev pub least_across : Graph → List (ℕ × ℕ) → Option (ℕ × ℕ) → List (ℕ × ℕ) → Option (ℕ × ℕ)
least_across g vs least [] = least
least_across g vs least (u ∷ us) = least_across g vs (least_with g u.0 least vs) us

-- the least of these two and each taker of p with each taker of q
abbrev pub least_between : Graph → ℕ → Option (ℕ × ℕ) → ℕ → Option (ℕ × ℕ)
least_between g q least p = least_across g (taking_trans g q) least (taking_trans g p)

-- the least of these two and each taker of p with each taker of these places
abbrev pub least_after : Graph → ℕ → Option (ℕ × ℕ) → List (ℕ × ℕ) → Option (ℕ × ℕ)
least_after g p least [] = least
least_after g p least (q ∷ qs) = least_after g p (least_between g q.0 least p) qs

-- the least of these two and each taker of the first places with each taker of the others
abbrev pub least_before : Graph → List (ℕ × ℕ) → Option (ℕ × ℕ) → List (ℕ × ℕ) → Option (ℕ × ℕ)
least_before g qs least [] = least
least_before g qs least (p ∷ ps) = least_before g qs (least_after g p.0 least qs) ps

-- the least two of which one takes from a place before t and the other from a place after it
abbrev pub least_round : Graph → ℕ → Option (ℕ × ℕ)
least_round g t = least_before g (given_places g t) None (taken_places g t)

-- the least of these two and the takers of one place below n that is left
abbrev pub least_left_below : Graph → ℕ → Option (ℕ × ℕ) → ℕ → Option (ℕ × ℕ)
least_left_below g t least zero = least
least_left_below g t least (suc n) =
    let below = least_left_below g t least n in
    if is_left g t n then least_between g n below n else below

-- the least of these two and the takers of one place that is left
abbrev pub least_at_left : Graph → ℕ → Option (ℕ × ℕ) → Option (ℕ × ℕ)
least_at_left g t least = least_left_below g t least (length g.places)
