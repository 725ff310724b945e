-- How the net of a draft is listed.
use Rattle.std.specs.Prelude.{◌≡◌, ◌++◌, ◌∷◌, [], ℕ, true, false, List, map, length, nat_lt, slice_index, if◌then◌else◌}
use Rattle.stg_net.specs.declared.signal.Signal.{Signal}
use Rattle.stg_net.specs.declared.arc.NetArc.{NetArc}
use Rattle.stg_net.specs.Net.{signal_at}
use Rattle.stg_net.specs.Ordered.{listed_below}
use Rattle.stg_net.specs.Graph.{Graph, takes, gives}

-- the signals have the names of those of these numbers
abbrev pub HaveNamesOf : List Signal → List ℕ → List Signal → Type 0
HaveNamesOf signals kept shown = map (λ (s : Signal). s.name) shown
    ≡ map (λ s. (signal_at signals s).name) kept

-- the arc, where it has a weight
abbrev pub weighted_arc : NetArc → List NetArc
weighted_arc a = if nat_lt 0 a.weight then a ∷ [] else []

-- the arcs between p and t, which get the numbers q and u
abbrev pub numbered_arcs : Graph → ℕ → ℕ → ℕ → ℕ → List NetArc
numbered_arcs g p t q u = weighted_arc
    (record { place = q; trans = u; into = false; weight = takes g t p })
    ++ weighted_arc (record { place = q; trans = u; into = true; weight = gives g t p })

-- the arcs between p and each of these transitions
abbrev pub place_arcs : Graph → List ℕ → ℕ → ℕ → List NetArc
place_arcs g trans p q = listed_below (λ u. numbered_arcs g p (slice_index trans u) q u)
    (length trans)

-- the arcs of each of these places
abbrev pub all_arcs : Graph → List ℕ → List ℕ → List NetArc
all_arcs g places trans = listed_below (λ q. place_arcs g trans (slice_index places q) q)
    (length places)
