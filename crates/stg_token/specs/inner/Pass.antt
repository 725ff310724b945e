-- What a pass over the arcs of a net does at each arc.
use Rattle.std.specs.Prelude.{ℕ, ◌+◌, ◌-◌, true, false, ◌||◌, ◌&&◌, ◌==◌, Bool, not, List, nat_le, slice_index, slice_set, if◌then◌else◌}
use Rattle.stg_net.specs.declared.arc.NetArc.{NetArc}
use Rattle.stg_net.specs.Initial.{goes}

-- whether the arc goes this way between t and its place
abbrev pub connects_trans : ℕ → Bool → NetArc → Bool
connects_trans t into a = (a.trans == t) && goes into a.into

-- whether the place holds what t takes by this arc
abbrev pub is_held : List ℕ → ℕ → NetArc → Bool
is_held m t a = not (connects_trans t false a) || nat_le a.weight (slice_index m a.place)

-- the marking after t has taken by this arc
abbrev pub with_taken : ℕ → NetArc → List ℕ → List ℕ
with_taken t a m =
    if connects_trans t false a then slice_set m a.place (slice_index m a.place - a.weight) else m

-- the marking after t has given by this arc
abbrev pub with_given : ℕ → NetArc → List ℕ → List ℕ
with_given t a m =
    if connects_trans t true a then slice_set m a.place (slice_index m a.place + a.weight) else m
