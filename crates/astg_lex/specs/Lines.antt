-- The lines of a text, and the bytes that may stand in them.
use Rattle.std.specs.Prelude.{ℕ, Bool, not, ◌&&◌, ◌||◌, ◌==◌, nat_le, List, [], ◌∷◌, if◌then◌else◌}
use Rattle.std.specs.List.{list_all, count_by, before_first, position_or_len}

-- the lines with one byte more in front of the first
abbrev pub with_byte : ℕ → List (List ℕ) → List (List ℕ)
with_byte b [] = (b ∷ []) ∷ []
with_byte b (line ∷ lines) = (b ∷ line) ∷ lines

-- the pieces between LF (10) bytes; a last piece without bytes is no line
abbrev pub lines_of : List ℕ → List (List ℕ)
lines_of [] = []
lines_of (b ∷ bs) = if b == 10 then [] ∷ lines_of bs else with_byte b (lines_of bs)

-- how many LF bytes there are
abbrev pub line_ends : List ℕ → ℕ
line_ends text = count_by (λ b. b == 10) text

-- what stands before the first # (35)
abbrev pub code_of : List ℕ → List ℕ
code_of line = before_first (λ b. b == 35) line

-- printable, a tab (9) or CR (13)
abbrev pub may_stand : ℕ → Bool
may_stand b = (nat_le 32 b && nat_le b 126) || b == 9 || b == 13

-- a byte outside the comment may not stand
abbrev pub has_bad_byte : List ℕ → Bool
has_bad_byte line = not (list_all may_stand (code_of line))

-- how many bytes stand before the first LF
abbrev pub line_length : List ℕ → ℕ
line_length text = position_or_len (λ b. b == 10) text
