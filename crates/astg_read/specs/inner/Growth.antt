-- What a further line says, beside what the lines before it say.
use Rattle.std.specs.Prelude.{true, List, [], flat_map, ◌++◌, codes, Option, None, Some, if◌then◌else◌}
use Rattle.stg_net.specs.declared.trans.TransName.{TransName}
use Rattle.astg_read.specs.Rows.{Row, begins, other_words, is_graph_row}
use Rattle.astg_read.specs.Lists.{firsts}
use Rattle.astg_read.specs.Header.{Declared, signals_on, dummies_on}
use Rattle.astg_read.specs.Nodes.{Node, same_trans}
use Rattle.astg_read.specs.Graphs.{TextArc, PlaceAt, same_place, node_trans, node_place, place_between, trans_on, places_on, text_arcs_on}
use Rattle.astg_read.specs.Said.{Said}

-- transitions and places in order of first appearance, and text arcs in their order
pub record GraphLists : Type 0 where
  pub trans : List TransName
  pub places : List PlaceAt
  pub text_arcs : List TextArc

-- the names that a further line declares join
abbrev pub with_names : Declared → Row → Declared
with_names d row =
    record { signals = d.signals ++ signals_on row; dummies = d.dummies ++ dummies_on row }

-- a line before or at .graph
abbrev pub with_header : Said → Row → Said
with_header k row =
    if begins (codes ".graph") row then record k { has_graph = true }
    else record k { declared = with_names k.declared row }

-- a line of the graph
abbrev pub with_graph_row : Said → Row → Said
with_graph_row k row = record k {
  trans = firsts same_trans k.trans (trans_on k.declared row);
  places = firsts same_place k.places (places_on k.declared row);
  text_arcs = k.text_arcs ++ text_arcs_on k.declared row;
}

-- a line after .graph and before or at .marking
abbrev pub in_graph : Said → Row → Said
in_graph k row =
    if begins (codes ".marking") row then record k { marking = Some (other_words row) }
    else if is_graph_row row then with_graph_row k row else k

-- a line after .graph
abbrev pub after_graph : Said → Option Row → Row → Said
after_graph k None row = in_graph k row
after_graph k (Some words) row = record k { marking = Some (words ++ row) }

-- what the lines say with this one
abbrev pub after_row : Said → Row → Said
after_row k row = if k.has_graph then after_graph k k.marking row else with_header k row

-- a graph without anything
abbrev pub no_graph : GraphLists
no_graph = record { trans = []; places = []; text_arcs = [] }

-- the graph with this node
abbrev pub with_node : GraphLists → Node → GraphLists
with_node g n =
    record g {
      trans = firsts same_trans g.trans (node_trans n);
      places = firsts same_place g.places (node_place n);
    }

-- the graph with the place between two nodes, where both are transitions
abbrev pub with_between : GraphLists → Node → Node → GraphLists
with_between g source target =
    record g { places = firsts same_place g.places (place_between source target) }

-- the transitions of the targets of these text arcs
abbrev pub trans_in : List TextArc → List TransName
trans_in ps = flat_map (λ (p : TextArc). node_trans p.target) ps

-- the places of the targets of these text arcs, and those between transitions
abbrev pub places_in : List TextArc → List PlaceAt
places_in ps = flat_map (λ (p : TextArc). node_place p.target ++ place_between p.source p.target) ps

-- the graph with the targets of these text arcs
abbrev pub with_targets : GraphLists → List TextArc → GraphLists
with_targets g ps =
    record g {
      trans = firsts same_trans g.trans (trans_in ps);
      places = firsts same_place g.places (places_in ps);
    }

-- the graph with these text arcs
abbrev pub with_text_arcs : GraphLists → List TextArc → GraphLists
with_text_arcs g ps = record g { text_arcs = g.text_arcs ++ ps }
