-- The words of a line.
use Rattle.std.specs.Prelude.{ℕ, Bool, false, not, ◌&&◌, ◌||◌, ◌==◌, ◌+◌, List, [], ◌∷◌, map, codes, if◌then◌else◌}
use Rattle.std.specs.List.{list_any}
use Rattle.astg_lex.specs.Lines.{code_of}

-- a word, and where in the text it begins and ends
pub record WordAt : Type 0 where
  pub text : List ℕ
  pub start : ℕ
  pub end : ℕ

-- space (32), tab (9) and CR (13)
abbrev pub is_blank : ℕ → Bool
is_blank b = b == 32 || b == 9 || b == 13

-- a byte that is a word by itself
abbrev pub is_single : ℕ → Bool
is_single b = list_any (λ c. c == b) (codes "{}<>,=()")

-- a byte that stands in a word with others
abbrev pub is_joining : ℕ → Bool
is_joining b = not (is_blank b || is_single b)

-- the first byte is one that stands in a word with others
abbrev pub begins_joining : List ℕ → Bool
begins_joining [] = false
begins_joining (b ∷ bs) = is_joining b

-- a word with a further byte before it
abbrev pub longer : ℕ → ℕ → List WordAt → List WordAt
longer at b [] = []
longer at b (w ∷ ws) = record { text = b ∷ w.text; start = at; end = w.end } ∷ ws

-- the words from a byte on, where the words after it are known
abbrev pub words_with : ℕ → ℕ → List ℕ → List WordAt → List WordAt
words_with at b bs words =
    if is_blank b then words
    else if is_joining b && begins_joining bs then longer at b words
    else record { text = b ∷ []; start = at; end = at + 1 } ∷ words

-- the words of these bytes, which begin at a place in the text: each single
-- byte, and each longest run of joining ones
abbrev pub words_at : ℕ → List ℕ → List WordAt
words_at at [] = []
words_at at (b ∷ bs) = words_with at b bs (words_at (at + 1) bs)

-- the words of a line
abbrev pub words_of : List ℕ → List (List ℕ)
words_of line = map (λ (w : WordAt). w.text) (words_at 0 (code_of line))
