-- The search for the least clash, from the last arc on.
use Rattle.std.specs.Prelude.{Bool, not, ◌&&◌, ◌||◌, ◌==◌, nat_lt, List, [], ◌∷◌, Option, Some, None, if◌then◌else◌}
use Rattle.stg_net.specs.declared.trans.TransName.{TransName}
use Rattle.stg_net.specs.declared.arc.NetArc.{NetArc}
use Rattle.stg_net.specs.Net.{trans_at, is_edge}
use Rattle.stg_conflict.specs.declared.clash.Clash.{Clash}

-- whether c is the lesser: by the first transition, then by the second, then by the place
abbrev pub is_lesser : Clash → Clash → Bool
is_lesser c d =
    nat_lt c.t1 d.t1
    || (c.t1 == d.t1) && (nat_lt c.t2 d.t2 || (c.t2 == d.t2) && nat_lt c.place d.place)

-- the lesser of two, where there is one
abbrev pub lesser : Option Clash → Option Clash → Option Clash
lesser (Some c) (Some d) = Some (if is_lesser d c then d else c)
lesser (Some c) None = Some c
lesser None d = d

-- whether two names of a net have one label
abbrev pub have_label : TransName → TransName → Bool
have_label x y = (x.signal == y.signal) && is_edge x.edge y.edge

-- whether two arcs of one place are those by which two transitions of one label take
abbrev pub are_clashing : List TransName → NetArc → NetArc → Bool
are_clashing trans a b =
    have_label (trans_at trans a.trans) (trans_at trans b.trans) && not a.into && not b.into

-- the clash of a with the first later arc that clashes with
-- it, up to the first arc of another place
abbrev pub first_clash : List TransName → NetArc → List NetArc → Option Clash
first_clash trans a [] = None
first_clash trans a (b ∷ arcs) =
    if b.place == a.place
    then (
    if are_clashing trans a b
    then Some (record { t1 = a.trans; t2 = b.trans; place = a.place })
    else first_clash trans a arcs
    )
    else None

-- the least of the clashes of all arcs
abbrev pub least_clash : List TransName → List NetArc → Option Clash
least_clash trans [] = None
least_clash trans (a ∷ arcs) = lesser (first_clash trans a arcs) (least_clash trans arcs)
