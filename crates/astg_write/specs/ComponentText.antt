-- The text of a component: a function from a net and a part number to bytes.
use Rattle.std.specs.Prelude.{ℕ, Bool, ◌&&◌, ◌==◌, not, nat_le, List, [], ◌∷◌, ◌++◌, length, slice_index, if◌then◌else◌, codes, decimal}
use Rattle.std.specs.List.{list_any}
use Rattle.stg_net.specs.declared.signal.Kind.{Kind}
use Rattle.stg_net.specs.declared.signal.Kind.TheVariants.{Input, Output, Internal}
use Rattle.stg_net.specs.declared.signal.Signal.{Signal}
use Rattle.stg_net.specs.declared.arc.NetArc.{NetArc}
use Rattle.stg_net.specs.Net.{NetLists, is_kind}
use Rattle.stg_net.specs.Words.{trans_word}
use Rattle.stg_net.specs.Ordered.{listed_below}
use Rattle.astg_write.specs.PlaceNames.{place_prefix, numbered_name}

-- the words, ended by LF
abbrev pub line : List ℕ → List ℕ
line words = words ++ codes "\n"

-- the line that names the component
abbrev pub model_line : ℕ → List ℕ
model_line part = line (codes ".model part" ++ decimal part)

-- whether the signal has that kind
abbrev pub of_kind : Kind → Signal → Bool
of_kind kind s = is_kind kind s.kind

-- the names of the signals of that kind, each after a space
abbrev pub spaced_names : Kind → List Signal → List ℕ
spaced_names kind [] = []
spaced_names kind (s ∷ ss) =
    if of_kind kind s then codes " " ++ s.name ++ spaced_names kind ss else spaced_names kind ss

-- the line that declares the signals of that kind; none where there are none
abbrev pub names_line : List ℕ → Kind → List Signal → List ℕ
names_line directive kind signals =
    if list_any (of_kind kind) signals then line (directive ++ spaced_names kind signals) else []

-- a weight above 1, as it stands after a target
abbrev pub weight_group : ℕ → List ℕ
weight_group w = if nat_le w 1 then [] else codes "(" ++ decimal w ++ codes ")"

-- whether the arc goes from the transition into a place
abbrev pub comes_from : ℕ → NetArc → Bool
comes_from t a = a.into && (a.trans == t)

-- whether the arc goes from a transition into the place
abbrev pub goes_into : ℕ → NetArc → Bool
goes_into p a = a.into && (a.place == p)

-- whether the arc goes from the place to a transition
abbrev pub goes_out_of : ℕ → NetArc → Bool
goes_out_of p a = not a.into && (a.place == p)

-- the places to which the transition gives, each after a space and with its weight
abbrev pub given_text : List ℕ → ℕ → List NetArc → List ℕ
given_text prefix t [] = []
given_text prefix t (a ∷ arcs) =
    if comes_from t a
    then codes " " ++ numbered_name prefix a.place ++ weight_group a.weight
    ++ given_text prefix t arcs
    else given_text prefix t arcs

-- the line of the transition: its text, and the places to which it gives
abbrev pub trans_line : List ℕ → NetLists → ℕ → List ℕ
trans_line prefix n t = line (trans_word n.signals n.trans t ++ given_text prefix t n.arcs)

-- the transitions that take from the place, each after a space and with its weight
abbrev pub takers_of : NetLists → ℕ → List NetArc → List ℕ
takers_of n p [] = []
takers_of n p (a ∷ arcs) =
    if goes_out_of p a
    then codes " " ++ trans_word n.signals n.trans a.trans ++ weight_group a.weight
    ++ takers_of n p arcs
    else takers_of n p arcs

-- whether something gives to the place and nothing takes from it
abbrev pub is_only_given : List NetArc → ℕ → Bool
is_only_given arcs p = list_any (goes_into p) arcs && not (list_any (goes_out_of p) arcs)

-- the line of the place; none where something gives to it and nothing takes from it
abbrev pub place_line : List ℕ → NetLists → ℕ → List ℕ
place_line prefix n p =
    if is_only_given n.arcs p then [] else line (numbered_name prefix p ++ takers_of n p n.arcs)

-- a number of tokens above 1, as it stands after a place
abbrev pub tokens_group : ℕ → List ℕ
tokens_group k = if nat_le k 1 then [] else codes "=" ++ decimal k

-- the entry of the place after a space; none where it has no tokens
abbrev pub entry : List ℕ → List ℕ → ℕ → List ℕ
entry prefix tokens p =
    if slice_index tokens p == 0 then []
    else codes " " ++ numbered_name prefix p ++ tokens_group (slice_index tokens p)

-- the line of the marking: the entries in the order of the places
abbrev pub marking_line : List ℕ → List ℕ → List ℕ
marking_line prefix tokens =
    line (codes ".marking {" ++ listed_below (entry prefix tokens) (length tokens) ++ codes " }")

-- the lines that declare the signals
abbrev pub header : List Signal → List ℕ
header signals =
    names_line (codes ".inputs") Input signals ++ names_line (codes ".outputs") Output signals
    ++ names_line (codes ".internal") Internal signals

-- the lines of the transitions and of the places
abbrev pub graph_lines : List ℕ → NetLists → List ℕ
graph_lines prefix n =
    line (codes ".graph") ++ listed_below (trans_line prefix n) (length n.trans)
    ++ listed_below (place_line prefix n) (length n.tokens)

-- all lines but the first
abbrev pub net_lines : List ℕ → NetLists → List ℕ
net_lines prefix n =
    header n.signals ++ graph_lines prefix n ++ marking_line prefix n.tokens ++ line (codes ".end")

-- the text of the net as the component of that number
unfoldable pub component_text : NetLists → ℕ → List ℕ
component_text n part = model_line part ++ net_lines (place_prefix n.signals) n
