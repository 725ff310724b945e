-- The graph that a net stands for, and the initial component of a group.
use Rattle.std.specs.Prelude.{ℕ, Bool, true, false, not, ◌&&◌, ◌==◌, List, Option, Some, map, length, slice_index, sum_by, if◌then◌else◌}
use Rattle.std.specs.List.{range_with_len}
use Rattle.stg_net.specs.declared.trans.TransName.{TransName}
use Rattle.stg_net.specs.declared.arc.NetArc.{NetArc}
use Rattle.stg_net.specs.Net.{NetLists, signal_at}
use Rattle.stg_net.specs.Graph.{Graph, Place, FullName}

-- whether both directions are the same, where true is into the place
abbrev pub goes : Bool → Bool → Bool
goes true into = into
goes false into = not into

-- whether the arc goes this way between t and p
abbrev pub connects : Bool → ℕ → ℕ → NetArc → Bool
connects into t p a = (a.trans == t) && (a.place == p) && goes into a.into

-- the weight of the arc between t and p, into the place or out of it; 0 where there is none
abbrev pub weight_of : List NetArc → Bool → ℕ → ℕ → ℕ
weight_of arcs into t p = sum_by (λ (a : NetArc). if connects into t p a then a.weight else 0) arcs

-- the weights of a place at all transitions
abbrev pub weight_list : ℕ → (ℕ → ℕ) → List ℕ
weight_list trans weight = map weight (range_with_len 0 trans)

-- the place of that number, with its tokens and its weights at all transitions
abbrev pub place_of : NetLists → ℕ → Option Place
place_of n p = Some (record {
  tokens = slice_index n.tokens p;
  taken = weight_list (length n.trans) (λ t. weight_of n.arcs false t p);
  given = weight_list (length n.trans) (λ t. weight_of n.arcs true t p);
})

-- the transition's name with the name of its signal
abbrev pub full_name : NetLists → TransName → FullName
full_name n t =
    record { signal = (signal_at n.signals t.signal).name; edge = t.edge; index = t.index }

-- the initial component with these signals known: all places and transitions of the net
abbrev pub initial : NetLists → List ℕ → Graph
initial n known = record {
  places = map (place_of n) (range_with_len 0 (length n.tokens));
  trans = map (λ t. Some (full_name n t)) n.trans;
  known = map (λ s. (signal_at n.signals s).name) known;
  first_places = length n.tokens;
}

-- the net as a graph in which all its signals are known
abbrev pub graph_of : NetLists → Graph
graph_of n = initial n (range_with_len 0 (length n.signals))
