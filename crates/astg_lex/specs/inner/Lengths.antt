-- How many bytes the first word of a line has.
use Rattle.std.specs.Prelude.{ℕ, List, [], ◌∷◌, if◌then◌else◌, ◌+◌, take, drop}
use Rattle.std.specs.List.{prefix_len}
use Rattle.astg_lex.specs.Words.{is_joining, is_single, WordAt, words_at}

-- how many bytes the word in front has
abbrev pub word_length : List ℕ → ℕ
word_length [] = 0
word_length (b ∷ bs) = if is_single b then 1 else prefix_len is_joining (b ∷ bs)

-- a word of n bytes in front, and the words after it
abbrev pub word_and_rest : ℕ → ℕ → List ℕ → List WordAt
word_and_rest n at bytes =
    record { text = take n bytes; start = at; end = at + n } ∷ words_at (at + n) (drop n bytes)
