-- The text of a partition: the names on its lines, or the first line that breaks a rule.
use Rattle.std.specs.Prelude.{ℕ, ◌+◌, Bool, false, not, ◌&&◌, ◌||◌, nat_lt, List, [], ◌∷◌, ◌++◌, length, flat_map, Result, Ok, Err, if◌then◌else◌}
use Rattle.std.specs.Str.{bytes_eq}
use Rattle.std.specs.List.{list_any, list_all}
use Rattle.stg_net.specs.declared.signal.Signal.{Signal}
use Rattle.stg_net.specs.Graph.{is_among}
use Rattle.astg_lex.specs.Lines.{lines_of, code_of, has_bad_byte}
use Rattle.astg_lex.specs.Words.{is_blank}
use Rattle.stg_laws.specs.Stgs.{is_driven}
use Rattle.stg_partition.specs.declared.error.GroupError.{GroupError}
use Rattle.stg_partition.specs.declared.error.GroupError.TheVariants as errors

-- a row: the words of a line
abbrev pub GroupRow : Type 0
GroupRow = List (List ℕ)

-- whether the first byte is no blank
abbrev pub begins_word : List ℕ → Bool
begins_word [] = false
begins_word (b ∷ bs) = not (is_blank b)

-- the row with one byte more in front of its first word
abbrev pub with_first_byte : ℕ → GroupRow → GroupRow
with_first_byte b [] = []
with_first_byte b (w ∷ ws) = (b ∷ w) ∷ ws

-- the longest runs of bytes that aren't blanks
abbrev pub runs_of : List ℕ → GroupRow
runs_of [] = []
runs_of (b ∷ bs) =
    if is_blank b then runs_of bs
    else if begins_word bs then with_first_byte b (runs_of bs)
    else (b ∷ []) ∷ runs_of bs

-- the words of a line, which blanks alone separate, up to its comment
abbrev pub row_of : List ℕ → GroupRow
row_of line = runs_of (code_of line)

-- whether the signal is an output or internal and has this name
abbrev pub is_output_named : List ℕ → Signal → Bool
is_output_named w s = is_driven s.kind && bytes_eq s.name w

-- whether an output or internal signal has this name
abbrev pub names_output : List Signal → List ℕ → Bool
names_output signals w = list_any (is_output_named w) signals

-- whether one of the words is among the words before it or those before the row
abbrev pub stands_again : GroupRow → GroupRow → Bool
stands_again before [] = false
stands_again before (w ∷ ws) = is_among before w || stands_again (before ++ w ∷ []) ws

-- all words of the rows
abbrev pub words_of_rows : List GroupRow → GroupRow
words_of_rows rows = flat_map (λ row. row) rows

-- the rule that the words of the line of this number break first, after the rows before it
abbrev pub row_tested : List Signal → ℕ → List GroupRow → GroupRow → Result (Unit {0}) GroupError
row_tested signals number before row =
    if not (list_all (names_output signals) row) then Err (errors.UnknownOutput number)
    else if stands_again (words_of_rows before) row then Err (errors.OutputTwice number)
    else Ok tt

-- the rule that the line of this number breaks first, after the rows before it
abbrev pub line_tested :
    List Signal → ℕ → List GroupRow → List ℕ → Result (Unit {0}) GroupError
line_tested signals number before line =
    if has_bad_byte line then Err (errors.BadLine number)
    else row_tested signals number before (row_of line)

-- the refusal of a line, or else what comes of the later ones
abbrev pub or_refused :
    Result (Unit {0}) GroupError → Result (List GroupRow) GroupError
    → Result (List GroupRow) GroupError
or_refused (Ok _) later = later
or_refused (Err e) later = Err e

-- the rows and a further one, where that has words
abbrev pub with_group_row : List GroupRow → GroupRow → List GroupRow
with_group_row rows [] = rows
with_group_row rows (w ∷ ws) = rows ++ (w ∷ ws) ∷ []

-- the rows before and those of these lines that have words, or the refusal of the first bad
-- line; the lines are numbered from this one on
abbrev pub rows_after :
    List Signal → ℕ → List GroupRow → List (List ℕ) → Result (List GroupRow) GroupError
rows_after signals number before [] = Ok before
rows_after signals number before (line ∷ lines) =
    or_refused (line_tested signals number before line)
    (rows_after signals (number + 1) (with_group_row before (row_of line)) lines)

-- the most bytes of a text
abbrev pub most_bytes : ℕ
most_bytes = 1048576

-- one row for each line with words, or the refusal of the text
abbrev pub rows_of : List Signal → List ℕ → Result (List GroupRow) GroupError
rows_of signals text =
    if nat_lt most_bytes (length text) then Err (errors.BadLine 0)
    else rows_after signals 1 [] (lines_of text)
