-- A text that is read line by line.
use Rattle.std.specs.Prelude.{ℕ, ◌≡◌, ◌+◌, ◌≤◌, ◌<◌, List, [], ◌∷◌, length, take, drop, map, slice_range, false}
use Rattle.astg_lex.specs.Lines.{lines_of, line_length, code_of, has_bad_byte}
use Rattle.astg_lex.specs.Words.{WordAt, words_at}
use Rattle.astg_lex.specs.declared.words.Word.{Word}

-- the text, how many bytes of it have been read, and how many lines
pub record Lexing : Type 0 where
  pub text : List ℕ
  pub at : ℕ
  pub number : ℕ

-- what has been read is a part of the text, and the text isn't too long
pub record IsLexing (l : Lexing) : Type 0 where
  pub within : l.at ≤ length l.text
  pub lines : l.number ≤ l.at
  pub short : length l.text ≤ 16777216

-- nothing of the text has been read
abbrev pub start_of : List ℕ → Lexing
start_of text = record { text = text; at = 0; number = 0 }

-- what is still to be read
abbrev pub text_left : Lexing → List ℕ
text_left l = drop l.at l.text

-- the line that comes next
abbrev pub this_line : Lexing → List ℕ
this_line l = take (line_length (text_left l)) (text_left l)

-- the lines that are still to come
abbrev pub lines_left : Lexing → List (List ℕ)
lines_left l = lines_of (text_left l)

-- a word as callers see it
abbrev pub word_view : Word → WordAt
word_view w = record { text = w.text.now; start = w.start; end = w.end }

-- words as callers see them
abbrev pub word_views : List Word → List WordAt
word_views words = map word_view words

-- the words stand in the text one after the other, each with its own bytes
abbrev pub AreSpans : List ℕ → ℕ → List WordAt → Type 0
AreSpans text at [] = Unit {0}
AreSpans text at (w ∷ ws) =
    (at ≤ w.start) × (w.start < w.end) × (w.text ≡ slice_range text w.start w.end)
    × AreSpans text w.end ws

-- A line was read: it is the first of those that were left, it has this number and these
-- words, and the text behind it is left.
pub record Advances (old new : Lexing) (number : ℕ) (words : List Word) : Type 0 where
  pub numbered : number ≡ old.number + 1
  pub first : lines_left old ≡ this_line old ∷ lines_left new
  pub good : has_bad_byte (this_line old) ≡ false
  pub words_are : word_views words ≡ words_at old.at (code_of (this_line old))
  pub spans : AreSpans old.text old.at (word_views words)
  pub same_text : new.text ≡ old.text
  pub next_number : new.number ≡ old.number + 1
  pub shorter : length (text_left new) < length (text_left old)
