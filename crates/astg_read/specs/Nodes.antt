-- The nodes of a graph: transitions, and places by their names.
use Rattle.std.specs.Prelude.{Bool, true, false, not, ◌&&◌, ◌||◌, nat_eq, List, take_while, drop, length, bytes_eq, Option, None, Some, is_some, is_none, option_map, option_and_then, if◌then◌else◌}
use Rattle.stg_net.specs.declared.trans.Edge.TheVariants.{Toggle}
use Rattle.stg_net.specs.declared.trans.TransName.{TransName}
use Rattle.stg_net.specs.declared.signal.Signal.{Signal}
use Rattle.stg_net.specs.Net.{number_of, is_edge}
use Rattle.stg_net.specs.Names.{is_name, is_in_name}
use Rattle.astg_read.specs.Rows.{Word}
use Rattle.astg_read.specs.Names.{WordOfTrans, read_trans_word, index_of}
use Rattle.astg_read.specs.Header.{Declared, is_dummy}

-- a transition, or a place by its name
pub data Node : Type 0 where
  Trans : TransName → Node
  Place : Word → Node

-- whether two transitions are one
abbrev pub same_trans : TransName → TransName → Bool
same_trans a b = nat_eq a.signal b.signal && (is_edge a.edge b.edge && nat_eq a.index b.index)

-- whether two nodes are one
abbrev pub same_node : Node → Node → Bool
same_node (Trans t) (Trans u) = same_trans t u
same_node (Place p) (Place q) = bytes_eq p q
same_node m n = false

-- the longest name in front
abbrev pub front_name : Word → Word
front_name w = take_while is_in_name w

-- a dummy's name, and the index after it; a dummy has no edge of its own
abbrev pub dummy_word : Word → Option WordOfTrans
dummy_word w =
    option_map (λ index. record { name = front_name w; edge = Toggle; index = index })
    (index_of (drop (length (front_name w)) w))

-- what the word of a transition says: a dummy has a word of its own, and no word with an edge
abbrev pub trans_word_parts : Declared → Word → Option WordOfTrans
trans_word_parts d w = if is_dummy d (front_name w) then dummy_word w else read_trans_word w

-- the transition of the signal that has the word's name
abbrev pub with_number : List Signal → WordOfTrans → Option TransName
with_number signals p =
    option_map (λ n. record { signal = n; edge = p.edge; index = p.index })
    (number_of p.name signals)

-- the transition of a declared name for which a word stands
abbrev pub trans_of_word : Declared → Word → Option TransName
trans_of_word d w = option_and_then (with_number d.signals) (trans_word_parts d w)

-- a declared dummy's name, and an index where there is one
abbrev pub is_dummy_word : Declared → Word → Bool
is_dummy_word d w = is_dummy d (front_name w) && is_some (dummy_word w)

-- the word has the form of a transition
abbrev pub is_trans_word : Declared → Word → Bool
is_trans_word d w = is_dummy_word d w || is_some (read_trans_word w)

-- the word has the form of a transition, or of a name
abbrev pub is_node : Declared → Word → Bool
is_node d w = is_trans_word d w || is_name w

-- a transition word that stands for no transition
abbrev pub is_unknown : Declared → Word → Bool
is_unknown d w = is_some (read_trans_word w) && is_none (trans_of_word d w)

-- the name of a signal that is no dummy
abbrev pub is_signal : Declared → Word → Bool
is_signal d w = is_some (number_of w d.signals) && not (is_dummy d w)

-- the transition, or the place of the word where there is none
abbrev pub trans_or_place : Word → Option TransName → Node
trans_or_place w None = Place w
trans_or_place w (Some t) = Trans t

-- the node for which a word of the graph stands
abbrev pub node_of : Declared → Word → Node
node_of d w = trans_or_place w (trans_of_word d w)

-- the node is a place
abbrev pub is_place_node : Node → Bool
is_place_node (Trans t) = false
is_place_node (Place p) = true
