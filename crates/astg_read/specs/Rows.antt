-- The rows of a text, which are the words of its lines, and what kind of line each is.
use Rattle.std.specs.Prelude.{ℕ, Bool, false, not, ◌||◌, ◌==◌, List, [], ◌∷◌, ◌++◌, flat_map, filter, codes, bytes_eq, if◌then◌else◌, Option, None, Some}
use Rattle.std.specs.List.{list_any, before_first, after_first}

-- a byte or a run of bytes that stands by itself
abbrev pub Word : Type 0
Word = List ℕ

-- the words of a line, in order
abbrev pub Row : Type 0
Row = List Word

-- the row's first word is this one
abbrev pub begins : Word → Row → Bool
begins word [] = false
begins word (w ∷ ws) = bytes_eq w word

-- the row's words after the first
abbrev pub other_words : Row → Row
other_words [] = []
other_words (w ∷ ws) = ws

-- the line declares names
abbrev pub declares : Row → Bool
declares row =
    begins (codes ".inputs") row || begins (codes ".outputs") row || begins (codes ".internal") row
    || begins (codes ".dummy") row

-- the line stands in the header
abbrev pub is_header : Row → Bool
is_header row = begins (codes ".model") row || begins (codes ".name") row || declares row

-- the word begins with a dot (46)
abbrev pub begins_with_dot : Word → Bool
begins_with_dot [] = false
begins_with_dot (c ∷ cs) = c == 46

-- the line begins with a dot
abbrev pub is_directive : Row → Bool
is_directive [] = false
is_directive (w ∷ ws) = begins_with_dot w

-- the line has words and begins with no dot
abbrev pub is_graph_row : Row → Bool
is_graph_row [] = false
is_graph_row (w ∷ ws) = not (begins_with_dot w)

-- .graph stood on a line
abbrev pub has_graph : List Row → Bool
has_graph rows = list_any (begins (codes ".graph")) rows

-- the lines before .graph
abbrev pub header_rows : List Row → List Row
header_rows rows = before_first (begins (codes ".graph")) rows

-- the lines after .graph
abbrev pub rows_after_graph : List Row → List Row
rows_after_graph rows = after_first (begins (codes ".graph")) rows

-- the lines before .marking
abbrev pub before_marking : List Row → List Row
before_marking rows = before_first (begins (codes ".marking")) rows

-- the words after .marking, over all lines from there on
abbrev pub words_of_marking : List Row → Option Row
words_of_marking [] = None
words_of_marking (row ∷ rows) =
    if begins (codes ".marking") row then Some (other_words row ++ flat_map (λ r. r) rows)
    else words_of_marking rows

-- the lines of the graph
abbrev pub graph_rows : List Row → List Row
graph_rows rows = filter is_graph_row (before_marking (rows_after_graph rows))

-- the words of the marking, where it has begun
abbrev pub marking_words : List Row → Option Row
marking_words rows = words_of_marking (rows_after_graph rows)
