-- What lines say, taken together.
use Rattle.std.specs.Prelude.{Bool, List, Option}
use Rattle.stg_net.specs.declared.trans.TransName.{TransName}
use Rattle.stg_net.specs.declared.arc.NetArc.{NetArc}
use Rattle.astg_read.specs.Rows.{Row, has_graph, graph_rows, marking_words}
use Rattle.astg_read.specs.Header.{Declared, declared_in}
use Rattle.astg_read.specs.Graphs.{TextArc, PlaceAt, transitions, places, text_arcs, arcs}

-- whether .graph stood, what the header declares, what the graph's
-- lines say, and the words of the marking
pub record Said : Type 0 where
  pub has_graph : Bool
  pub declared : Declared
  pub trans : List TransName
  pub places : List PlaceAt
  pub text_arcs : List TextArc
  pub marking : Option Row

-- what these lines say
abbrev pub said : List Row → Said
said rows =
    let d = declared_in rows in let graph = graph_rows rows in
    record {
      has_graph = has_graph rows;
      declared = d;
      trans = transitions d graph;
      places = places d graph;
      text_arcs = text_arcs d graph;
      marking = marking_words rows;
    }

-- the arcs of the text arcs
abbrev pub arcs_in : Said → List NetArc
arcs_in k = arcs k.trans k.places k.text_arcs
