-- The text of a pipeline: signals in a row, each with a handshake of four phases with the next.
use Rattle.std.specs.Prelude.{ℕ, ◌+◌, List, [], ◌∷◌, ◌++◌, codes, decimal}
use Rattle.stg_net.specs.Ordered.{listed_below}

-- the name of the i-th signal
unfoldable pub name_word : ℕ → List ℕ
name_word i = codes "c" ++ decimal i

-- its name and the byte of an edge
unfoldable pub edge_word : ℕ → ℕ → List ℕ
edge_word i edge = name_word i ++ edge ∷ []

-- the line of an arc from an edge of the i-th signal to one of the j-th
unfoldable pub arc_line : ℕ → ℕ → ℕ → ℕ → List ℕ
arc_line i from j to = edge_word i from ++ 32 ∷ edge_word j to ++ 10 ∷ []

-- the handshake of the i-th signal with the next: both rise (43), then both fall (45)
unfoldable pub handshake_lines : ℕ → List ℕ
handshake_lines i =
    arc_line i 43 (i + 1) 43
    ++ arc_line (i + 1) 43 i 45
    ++ arc_line i 45 (i + 1) 45
    ++ arc_line (i + 1) 45 i 43

-- the name of the i-th output, which is the signal after the i-th, after a space
unfoldable pub output_word : ℕ → List ℕ
output_word i = 32 ∷ name_word (i + 1)

-- the entry of the marked place of the i-th handshake, after a space
unfoldable pub token_word : ℕ → List ℕ
token_word i = codes " <" ++ edge_word (i + 1) 45 ++ 44 ∷ edge_word i 43 ++ 62 ∷ []

-- the lines before the graph: the first and the last signal are inputs, the others outputs
unfoldable pub head_lines : ℕ → List ℕ
head_lines n =
    codes ".model pipeline\n.inputs c0 "
    ++ name_word (n + 1)
    ++ codes "\n.outputs"
    ++ listed_below output_word n
    ++ codes "\n.graph\n"

-- the lines after the graph
unfoldable pub tail_lines : ℕ → List ℕ
tail_lines n =
    codes ".marking {" ++ listed_below token_word (n + 1) ++ codes " }\n.end\n"

-- the text of a pipeline of n outputs
abbrev pub pipeline_text : ℕ → List ℕ
pipeline_text n =
    head_lines n ++ listed_below handshake_lines (n + 1) ++ tail_lines n
