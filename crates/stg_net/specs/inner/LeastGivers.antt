-- The least giver of each place, arc by arc.
use Rattle.std.specs.Prelude.{ℕ, min, List, slice_index, slice_set, if◌then◌else◌}
use Rattle.stg_net.specs.declared.arc.NetArc.{NetArc}

-- the least giver so far of each place, after one more arc
abbrev pub givers_after : NetArc → List ℕ → List ℕ
givers_after a keys =
    if a.into then slice_set keys a.place (min a.trans (slice_index keys a.place)) else keys
