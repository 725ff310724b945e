-- The definitions computed on worked texts.
use Rattle.std.proofs.Common.{◌≡◌, [], ◌∷◌, ◌++◌, true, false, refl}
use Rattle.std.specs.Prelude.{codes}
use Rattle.astg_lex.specs.Lines.{lines_of, line_ends, code_of, has_bad_byte}
use Rattle.astg_lex.specs.Words.{words_at, words_of}

-- a last piece without bytes is no line
two_lines : lines_of (codes "a\nb\n") ≡ codes "a" ∷ codes "b" ∷ []
two_lines = refl

last_without_end : lines_of (codes "a\n\nb") ≡ codes "a" ∷ [] ∷ codes "b" ∷ []
last_without_end = refl

no_line : lines_of [] ≡ []
no_line = refl

one_empty_line : lines_of (codes "\n") ≡ [] ∷ []
one_empty_line = refl

two_ends : line_ends (codes "a\n\nb") ≡ 2
two_ends = refl

before_comment : code_of (codes "a # b # c") ≡ codes "a "
before_comment = refl

-- in a comment any byte may stand
byte_in_comment : has_bad_byte (codes "a #" ++ 1 ∷ []) ≡ false
byte_in_comment = refl

byte_before_comment : has_bad_byte (codes "a" ++ 127 ∷ codes "#") ≡ true
byte_before_comment = refl

-- blanks are space, tab and CR
blanks : words_of (codes "\t a b " ++ 13 ∷ []) ≡ codes "a" ∷ codes "b" ∷ []
blanks = refl

singles : words_of (codes "<a+ ,b->=1#c") ≡ codes "<" ∷ codes "a+" ∷ codes "," ∷ codes "b-" ∷ codes ">" ∷ codes "=" ∷ codes "1" ∷ []
singles = refl

spans : words_at 7 (codes "a+ p(2)") ≡
    record { text = codes "a+"; start = 7; end = 9 } ∷ record { text = codes "p"; start = 10; end = 11 }
    ∷ record { text = codes "("; start = 11; end = 12 } ∷ record { text = codes "2"; start = 12; end = 13 }
    ∷ record { text = codes ")"; start = 13; end = 14 } ∷ []
spans = refl
