-- The words of bytes stand where they say.
use Rattle.std.proofs.Common.{◌≡◌, ◌+◌, ◌-◌, ◌≤◌, ℕ, suc, zero, List, [], ◌∷◌, ◌++◌, inl, inr, arith, drop, take, length, length-drop, drop-drop, sym, ap, subst, ◌∙◌}
use Rattle.std.proofs.lemmas.Bool.{cases_Bool}
use Rattle.std.proofs.lemmas.List.{take-append-le, drop-append-le}
use Rattle.std.specs.Prelude.{slice_range}
use Rattle.astg_lex.specs.Words.{WordAt, words_at, is_blank}
use Rattle.astg_lex.specs.inner.Lengths.{word_length}
use Rattle.astg_lex.specs.Lexing.{AreSpans}
use Rattle.astg_lex.proofs.WordLemmas.{words_at-blank, words_at-word, word_length-most, word_length-least}

weaker : (text : List ℕ) (a b : ℕ) (ws : List WordAt) → a ≤ b → AreSpans text b ws → AreSpans text a ws
weaker text a b [] h s = tt
weaker text a b (w ∷ ws) h s = (omega (arith, h, s.0), s.1, s.2, s.3)

-- bytes that stand at a place of the text, with others after them; n bounds their number
spans_within : (n : ℕ) (text : List ℕ) (at : ℕ) (bytes rest : List ℕ) → length bytes ≤ n → drop at text ≡ bytes ++ rest → AreSpans text at (words_at at bytes)
spans_within n text at [] rest short e = tt
spans_within zero text at (b ∷ bs) rest short e = absurd (omega (arith, short))
spans_within (suc n) text at (b ∷ bs) rest short e = elim (cases_Bool (is_blank b)) [
  | inl k ↦
      let P : List WordAt → Type 0 = λ ws. AreSpans text at ws in
      subst P (sym (words_at-blank at b bs k)) (weaker text at (at + 1) (words_at (at + 1) bs) (omega arith)
      (spans_within n text (at + 1) bs rest (omega (arith, short)) (drop-more 1 ∙ ap (drop 1) e)))
  | inr k ↦
      let m : ℕ = word_length (b ∷ bs) in
      let most : m ≤ length (b ∷ bs) = word_length-most (b ∷ bs) in
      let least : 1 ≤ m = word_length-least (b ∷ bs) (omega arith) k in
      let P : List WordAt → Type 0 = λ ws. AreSpans text at ws in
      let later : drop (at + m) text ≡ drop m (b ∷ bs) ++ rest = drop-more m ∙ ap (drop m) e ∙ drop-append-le m (b ∷ bs) rest most in
      let bytes : take m (b ∷ bs) ≡ slice_range text at (at + m) =
      sym (take-append-le m (b ∷ bs) rest most) ∙ ap (take m) (sym e) ∙ ap (λ i. take i (drop at text)) (let s : m ≡ (at + m) - at = omega arith in s) in
      subst P (sym (words_at-word at (b ∷ bs) (omega arith) k))
      (omega arith, omega (arith, least), bytes, spans_within n text (at + m) (drop m (b ∷ bs)) rest (omega (arith, short, most, least, length-drop m (b ∷ bs))) later)
]
  where
    drop-more : (i : ℕ) → drop (at + i) text ≡ drop i (drop at text)
    drop-more i = sym (drop-drop i at text)

pub spans_of : (text : List ℕ) (at : ℕ) (bytes rest : List ℕ) → drop at text ≡ bytes ++ rest → AreSpans text at (words_at at bytes)
spans_of text at bytes rest e = spans_within (length bytes) text at bytes rest (omega arith) e
