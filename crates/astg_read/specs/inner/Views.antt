-- What the reader keeps, as specs see it.
use Rattle.std.specs.Prelude.{ℕ, List, Option, map, option_map}
use Rattle.std.specs.Borrow.{Bor}
use Rattle.stg_net.specs.declared.signal.Kind.{Kind}
use Rattle.stg_net.specs.declared.signal.Signal.{Signal}
use Rattle.astg_lex.specs.declared.words.Word.{Word}
use Rattle.astg_read.specs.declared.names.TransWord.{TransWord}
use Rattle.astg_read.specs.declared.nodes.Node.{Node as ReadNode}
use Rattle.astg_read.specs.declared.nodes.Node.TheVariants as read
use Rattle.astg_read.specs.declared.targets.Target.{Target as ReadTarget}
use Rattle.astg_read.specs.declared.text_arcs.TextArc.{TextArc as ReadTextArc}
use Rattle.astg_read.specs.declared.text_graph.TextPlace.{TextPlace as ReadTextPlace}
use Rattle.astg_read.specs.declared.text_graph.TextPlace.TheVariants as read_place
use Rattle.astg_read.specs.declared.text_graph.Ends.{Ends}
use Rattle.astg_read.specs.declared.entries.Entry.{Entry as ReadEntry}
use Rattle.astg_read.specs.declared.place_tokens.PlaceTokens.{PlaceTokens as ReadPlaceTokens}
use Rattle.astg_read.specs.Markings.{Entry}
use Rattle.astg_read.specs.inner.PlaceTokens.{PlaceTokens}
use Rattle.astg_read.specs.Names.{WordOfTrans}
use Rattle.astg_read.specs.Rows.{Row}
use Rattle.astg_read.specs.Nodes.{Node, Trans, Place}
use Rattle.astg_read.specs.Targets.{Target}
use Rattle.astg_read.specs.Graphs.{TextArc, PlaceAt, Named, Between}

-- what a transition word says
abbrev pub trans_word_view : TransWord → WordOfTrans
trans_word_view t = record { name = t.name.now; edge = t.edge; index = t.index }

-- the words of a line
abbrev pub texts : List Word → Row
texts words = map (λ (w : Word). w.text.now) words

-- a name and its kind as a signal
abbrev pub signal_view : Bor (List ℕ) × Kind → Signal
signal_view e = record { name = e.0.now; kind = e.1 }

-- a node whose name is a slice of the text
abbrev pub node_view : ReadNode → Node
node_view (read.Trans t) = Trans t
node_view (read.Place p) = Place p.now

-- a target whose words are slices of the text
abbrev pub target_view : ReadTarget → Target
target_view t = record { word = option_map (λ w. w.now) t.word; group = texts t.group.now }

-- targets, in order
abbrev pub target_views : List ReadTarget → List Target
target_views targets = map target_view targets

-- a text arc whose names are slices of the text
abbrev pub text_arc_view : ReadTextArc → TextArc
text_arc_view p =
    record { source = node_view p.source; target = node_view p.target; weight = p.weight }

-- text arcs, in order
abbrev pub text_arc_views : List ReadTextArc → List TextArc
text_arc_views text_arcs = map text_arc_view text_arcs

-- a place whose name is a slice of the text
abbrev pub place_view : ReadTextPlace → PlaceAt
place_view (read_place.Named p) = Named p.now
place_view (read_place.Between t u) = Between t u

-- the ends of a text arc with its weight
abbrev pub weighed_view : Ends × Option ℕ → TextArc
weighed_view e =
    record { source = node_view e.0.source; target = node_view e.0.target; weight = e.1 }

-- words that are slices of the text
abbrev pub slices_view : List (Bor (List ℕ)) → Row
slices_view words = map (λ (w : Bor (List ℕ)). w.now) words

-- an entry whose words are slices of the text
abbrev pub entry_view : ReadEntry → Entry
entry_view e = record { place = slices_view e.place.now; tokens = slices_view e.tokens.now }

-- entries, in order
abbrev pub entry_views : List ReadEntry → List Entry
entry_views entries = map entry_view entries

-- a place whose name is a slice of the text, with its tokens
abbrev pub place_tokens_view : ReadPlaceTokens → PlaceTokens
place_tokens_view m = record { place = place_view m.place; tokens = m.tokens }

-- places with their tokens, in order
abbrev pub place_tokens_views : List ReadPlaceTokens → List PlaceTokens
place_tokens_views place_tokens = map place_tokens_view place_tokens
