-- The texts of words that a reader keeps.
use Rattle.std.specs.Prelude.{List, map}
use Rattle.astg_lex.specs.declared.words.Word.{Word}
use Rattle.stg_partition.specs.PartitionText.{GroupRow}

-- the row of the words of a line
abbrev pub texts_of : List Word → GroupRow
texts_of words = map (λ (w : Word). w.text.now) words

-- the rows of the words of lines
abbrev pub all_texts : List (List Word) → List GroupRow
all_texts rows = map texts_of rows
