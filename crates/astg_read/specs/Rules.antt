-- The rules that a line can break.
use Rattle.std.specs.Prelude.{ℕ, Bool, not, ◌&&◌, ◌||◌, nat_lt, List, [], ◌∷◌, ◌++◌, length, codes, Option, None, Some, is_some, unwrap_or, if◌then◌else◌}
use Rattle.std.specs.List.{list_any, list_all}
use Rattle.stg_net.specs.declared.limits.Limits.{Limits}
use Rattle.stg_net.specs.Names.{is_name}
use Rattle.astg_lex.specs.Lines.{has_bad_byte}
use Rattle.astg_lex.specs.Words.{words_of}
use Rattle.astg_read.specs.declared.rule.Rule.{Rule}
use Rattle.astg_read.specs.declared.rule.Rule.TheVariants.{BadByte, UnknownDirective, OutOfOrder, BadName, DeclaredTwice, UnknownSignal, NoEdge, BadArc, RepeatedArc, BadWeight, BadMarking, NoGraph, TooMany, HasDummy}
use Rattle.astg_read.specs.Lists.{has_repeat}
use Rattle.astg_read.specs.Rows.{Row, begins, other_words, declares, is_header, is_directive, is_graph_row}
use Rattle.astg_read.specs.Header.{signals_on, same_name}
use Rattle.astg_read.specs.Nodes.{is_node, is_unknown, is_signal}
use Rattle.astg_read.specs.Targets.{targets_of, node_words, is_good_group}
use Rattle.astg_read.specs.Graphs.{text_arcs_on, same_text_arc, is_between_places, weighs_trans}
use Rattle.astg_read.specs.Markings.{is_bad_marking, is_unfinished}
use Rattle.astg_read.specs.Said.{Said, said, arcs_in}

-- outside a marking, a line that begins with a dot and is none of the known directives
abbrev pub breaks_directive : Row → Bool
breaks_directive row =
    is_directive row
    && not (is_header row || begins (codes ".graph") row || begins (codes ".marking") row
    || begins (codes ".end") row)

-- the line may not stand here, by its kind
abbrev pub breaks_order : Said → Row → Bool
breaks_order k row =
    ((is_header row || begins (codes ".graph") row) && k.has_graph)
    || ((is_graph_row row || begins (codes ".marking") row)
    && (not k.has_graph || is_some k.marking))

-- a declared word that is no name, a word after .graph, or a source or target that is no node
abbrev pub breaks_names : Said → Row → Bool
breaks_names k row =
    (declares row && not (list_all is_name (other_words row)))
    || (begins (codes ".graph") row && nat_lt 0 (length (other_words row)))
    || (is_graph_row row && not (list_all (is_node k.declared) (node_words row)))

-- a declared name that was declared before
abbrev pub declares_twice : Said → Row → Bool
declares_twice k row = has_repeat same_name k.declared.signals (signals_on row)

-- on a graph line, a transition word of a name that isn't declared
abbrev pub has_unknown : Said → Row → Bool
has_unknown k row = is_graph_row row && list_any (is_unknown k.declared) (node_words row)

-- on a graph line, a name that is a declared signal
abbrev pub has_no_edge : Said → Row → Bool
has_no_edge k row = is_graph_row row && list_any (is_signal k.declared) (node_words row)

-- on a graph line, an arc between two places
abbrev pub has_bad_arc : Said → Row → Bool
has_bad_arc k row = is_graph_row row && list_any is_between_places (text_arcs_on k.declared row)

-- on a graph line, a source and a target that stood together before
abbrev pub repeats_arc : Said → Row → Bool
repeats_arc k row =
    is_graph_row row && has_repeat same_text_arc k.text_arcs (text_arcs_on k.declared row)

-- on a graph line, a weight group that holds no weight or stands after no
-- target, or a weight between two transitions
abbrev pub has_bad_weight : ℕ → Said → Row → Bool
has_bad_weight most k row =
    is_graph_row row
    && (not (list_all (is_good_group most) (targets_of row))
    || list_any weighs_trans (text_arcs_on k.declared row))

-- the words of the marking, with those of this line
abbrev pub marking_with : Said → Row → Row
marking_with k row = if is_some k.marking then unwrap_or k.marking [] ++ row else other_words row

-- the marking is wrong as far as it goes, this line included
abbrev pub breaks_marking : ℕ → Said → Row → Bool
breaks_marking most k row = is_bad_marking most k.declared k.places (marking_with k row)

-- there are too many of a kind
abbrev pub has_too_many : Limits → Said → Bool
has_too_many limits k =
    nat_lt limits.signals (length k.declared.signals)
    || nat_lt limits.trans (length k.trans)
    || nat_lt limits.places (length k.places)
    || nat_lt limits.arcs (length (arcs_in k))

-- outside a marking, a line that begins with .end
abbrev pub ends_text : Said → Row → Bool
ends_text k row = begins (codes ".end") row && not (is_unfinished k.marking)

-- the line declares a dummy
abbrev pub has_dummy : Row → Bool
has_dummy row = begins (codes ".dummy") row && nat_lt 0 (length (other_words row))

-- the rules that a line outside a marking can break by what it says, in order
abbrev pub line_rules : ℕ → Said → Row → List (Bool × Rule)
line_rules most k row =
    (breaks_directive row, UnknownDirective)
    ∷ (breaks_order k row, OutOfOrder)
    ∷ (breaks_names k row, BadName)
    ∷ (declares_twice k row, DeclaredTwice)
    ∷ (has_unknown k row, UnknownSignal)
    ∷ (has_no_edge k row, NoEdge)
    ∷ (has_bad_arc k row, BadArc)
    ∷ (repeats_arc k row, RepeatedArc)
    ∷ (has_bad_weight most k row, BadWeight)
    ∷ (begins (codes ".marking") row && breaks_marking most k row, BadMarking)
    ∷ (begins (codes ".end") row && not k.has_graph, NoGraph)
    ∷ []

-- Those rules, and the last two; with_row is what the lines say with this one. In a raw text
-- dummies may stand, and count; elsewhere they are refused, and don't count.
abbrev pub outside_rules : Bool → Limits → Said → Said → Row → List (Bool × Rule)
outside_rules is_raw limits k with_row row =
    line_rules limits.weight k row
    ++ ((is_raw || not (begins (codes ".dummy") row)) && has_too_many limits with_row, TooMany)
    ∷ (not is_raw && has_dummy row, HasDummy)
    ∷ []

-- a line: its words, and whether it has a byte that may not stand
pub record Line : Type 0 where
  pub is_bad : Bool
  pub words : Row

-- a line as its bytes show it
abbrev pub seen_line : List ℕ → Line
seen_line line = record { is_bad = has_bad_byte line; words = words_of line }

-- the rules that a line can break: inside a marking a bad byte and the marking's own
abbrev pub rules : Bool → Limits → Said → Said → Line → List (Bool × Rule)
rules is_raw limits k with_row line =
    (line.is_bad, BadByte)
    ∷ (if is_unfinished k.marking
    then (breaks_marking limits.weight k line.words, BadMarking) ∷ []
    else outside_rules is_raw limits k with_row line.words)

-- the first rule whose test is true
abbrev pub first_broken : List (Bool × Rule) → Option Rule
first_broken [] = None
first_broken (r ∷ rs) = if r.0 then Some r.1 else first_broken rs

-- the first rule that a line breaks, after the lines before it
abbrev pub broken_by : Bool → Limits → List Row → Line → Option Rule
broken_by is_raw limits before line =
    first_broken (rules is_raw limits (said before) (said (before ++ line.words ∷ [])) line)
