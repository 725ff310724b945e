-- What the lines of a graph say: text arcs, transitions, places and the net's arcs.
use Rattle.std.specs.Prelude.{ℕ, zero, Bool, true, false, not, ◌&&◌, ◌||◌, List, [], ◌∷◌, ◌++◌, flat_map, filter_map, position, bytes_eq, Option, is_some, option_map, unwrap_or}
use Rattle.stg_net.specs.declared.trans.TransName.{TransName}
use Rattle.stg_net.specs.declared.arc.NetArc.{NetArc}
use Rattle.astg_read.specs.Rows.{Word, Row}
use Rattle.astg_read.specs.Lists.{firsts}
use Rattle.astg_read.specs.Header.{Declared}
use Rattle.astg_read.specs.Nodes.{Node, Trans, Place, same_trans, same_node, node_of, is_place_node}
use Rattle.astg_read.specs.Targets.{Target, targets_after, group_weight}

-- a source and one of its targets, with the weight after the target where there is one
pub record TextArc : Type 0 where
  pub source : Node
  pub target : Node
  pub weight : Option ℕ

-- whether two text arcs have the same source and the same target
abbrev pub same_text_arc : TextArc → TextArc → Bool
same_text_arc a b = same_node a.source b.source && same_node a.target b.target

-- the text arc from a source to a target
abbrev pub text_arc_of : Declared → Word → Target → Option TextArc
text_arc_of d source t =
    option_map (λ word. record {
      source = node_of d source;
      target = node_of d word;
      weight = group_weight t.group;
    }) t.word

-- the text arcs of a line, in order
abbrev pub text_arcs_on : Declared → Row → List TextArc
text_arcs_on d [] = []
text_arcs_on d (source ∷ ws) = filter_map (text_arc_of d source) (targets_after zero ws)

-- the text arcs of the lines, in order
abbrev pub text_arcs : Declared → List Row → List TextArc
text_arcs d rows = flat_map (text_arcs_on d) rows

-- both are places
abbrev pub is_between_places : TextArc → Bool
is_between_places p = is_place_node p.source && is_place_node p.target

-- a weight on an arc between two transitions
abbrev pub weighs_trans : TextArc → Bool
weighs_trans p = is_some p.weight && not (is_place_node p.source || is_place_node p.target)

-- a place of the graph: by its name, or between two transitions
pub data PlaceAt : Type 0 where
  Named : Word → PlaceAt
  Between : TransName → TransName → PlaceAt

-- whether two places are one
abbrev pub same_place : PlaceAt → PlaceAt → Bool
same_place (Named p) (Named q) = bytes_eq p q
same_place (Between a b) (Between c d) = same_trans a c && same_trans b d
same_place p q = false

-- the transition of a node, where it is one
abbrev pub node_trans : Node → List TransName
node_trans (Trans t) = t ∷ []
node_trans (Place p) = []

-- the place of a node, where it is one
abbrev pub node_place : Node → List PlaceAt
node_place (Trans t) = []
node_place (Place p) = Named p ∷ []

-- the place between two nodes, where both are transitions
abbrev pub place_between : Node → Node → List PlaceAt
place_between (Trans t) (Trans u) = Between t u ∷ []
place_between m n = []

-- the source of a line
abbrev pub source_on : Declared → Row → List Node
source_on d [] = []
source_on d (w ∷ ws) = node_of d w ∷ []

-- the transitions as they appear on a line, word by word
abbrev pub trans_on : Declared → Row → List TransName
trans_on d row =
    flat_map node_trans (source_on d row)
    ++ flat_map (λ (p : TextArc). node_trans p.target) (text_arcs_on d row)

-- the places as they appear on a line, one between two transitions after its target
abbrev pub places_on : Declared → Row → List PlaceAt
places_on d row =
    flat_map node_place (source_on d row)
    ++ flat_map (λ (p : TextArc). node_place p.target ++ place_between p.source p.target)
    (text_arcs_on d row)

-- the transitions in order of first appearance
abbrev pub transitions : Declared → List Row → List TransName
transitions d rows = firsts same_trans [] (flat_map (trans_on d) rows)

-- the places in order of first appearance
abbrev pub places : Declared → List Row → List PlaceAt
places d rows = firsts same_place [] (flat_map (places_on d) rows)

-- the number of a transition; 0 where it isn't there
abbrev pub trans_number : List TransName → TransName → ℕ
trans_number trans t = unwrap_or (position (same_trans t) trans) 0

-- the number of a place; 0 where it isn't there
abbrev pub place_number : List PlaceAt → PlaceAt → ℕ
place_number all p = unwrap_or (position (same_place p) all) 0

-- the arc from a transition into a place
abbrev pub into_place : List TransName → List PlaceAt → PlaceAt → TransName → ℕ → NetArc
into_place trans all p t weight =
    record {
      place = place_number all p;
      trans = trans_number trans t;
      into = true;
      weight = weight;
    }

-- the arc out of a place to a transition
abbrev pub out_of_place : List TransName → List PlaceAt → PlaceAt → TransName → ℕ → NetArc
out_of_place trans all p t weight =
    record {
      place = place_number all p;
      trans = trans_number trans t;
      into = false;
      weight = weight;
    }

-- the arcs from one node to another: one, or the two of the place between
abbrev pub node_arcs : List TransName → List PlaceAt → ℕ → Node → Node → List NetArc
node_arcs trans all weight (Trans t) (Place p) = into_place trans all (Named p) t weight ∷ []
node_arcs trans all weight (Place p) (Trans t) = out_of_place trans all (Named p) t weight ∷ []
node_arcs trans all weight (Trans t) (Trans u) =
    into_place trans all (Between t u) t 1 ∷ out_of_place trans all (Between t u) u 1 ∷ []
node_arcs trans all weight (Place p) (Place q) = []

-- the arcs of a text arc, whose weight is 1 where none is given
abbrev pub arcs_of : List TransName → List PlaceAt → TextArc → List NetArc
arcs_of trans all p = node_arcs trans all (unwrap_or p.weight 1) p.source p.target

-- the arcs of text arcs, in their order
abbrev pub arcs : List TransName → List PlaceAt → List TextArc → List NetArc
arcs trans all text_arcs = flat_map (arcs_of trans all) text_arcs
