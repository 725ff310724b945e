-- The first line of a text, and what stands before its comment.
use Rattle.std.proofs.Common.{◌≡◌, ◌+◌, ◌<◌, ◌==◌, ℕ, suc, List, [], ◌∷◌, ◌++◌, true, false, not, cond, inl, inr, arith, drop, take, length, refl, sym, ap, subst, ◌∙◌, ◌-◌, length-drop, take_all, append_assoc}
use Rattle.std.specs.List.{position_or_len}
use Rattle.std.proofs.lemmas.List.{take-append-drop}
use Rattle.astg_lex.proofs.SpanLemmas.{spans_of}
use Rattle.std.proofs.lemmas.Bool.{cases_Bool}
use Rattle.astg_lex.specs.Lines.{lines_of, with_byte, line_length, code_of, has_bad_byte}
use Rattle.astg_lex.specs.Words.{words_at}
use Rattle.astg_lex.specs.Lexing.{Lexing, Advances, text_left, word_views, AreSpans}
use Rattle.astg_lex.specs.declared.words.Word.{Word}

-- the first n bytes are a line, and the others begin after one more
abbrev first_and_rest : ℕ → List ℕ → List (List ℕ)
first_and_rest n bytes = take n bytes ∷ lines_of (drop (suc n) bytes)

ended : (b : ℕ) (bs : List ℕ) → (b == 10) ≡ true → lines_of (b ∷ bs) ≡ [] ∷ lines_of bs
ended b bs k = ap (λ s. cond s ([] ∷ lines_of bs) (with_byte b (lines_of bs))) k

longer : (b : ℕ) (bs : List ℕ) → (b == 10) ≡ false → lines_of (b ∷ bs) ≡ with_byte b (lines_of bs)
longer b bs k = ap (λ s. cond s ([] ∷ lines_of bs) (with_byte b (lines_of bs))) k

length-ended : (b : ℕ) (bs : List ℕ) → (b == 10) ≡ true → line_length (b ∷ bs) ≡ 0
length-ended b bs k = ap {B = ℕ} (λ s. cond (not s) (1 + line_length bs) 0) k

length-longer : (b : ℕ) (bs : List ℕ) → (b == 10) ≡ false → line_length (b ∷ bs) ≡ suc (line_length bs)
length-longer b bs k = ap {B = ℕ} (λ s. cond (not s) (1 + line_length bs) 0) k ∙ (let e : 1 + line_length bs ≡ suc (line_length bs) = omega arith in e)

lines_of-from : (b : ℕ) (bs : List ℕ) → lines_of (b ∷ bs) ≡ first_and_rest (line_length (b ∷ bs)) (b ∷ bs)
lines_of-from b [] = elim (cases_Bool (b == 10)) [
  | inl k ↦ ended b [] k ∙ sym (ap (λ n. first_and_rest n (b ∷ [])) (length-ended b [] k))
  | inr k ↦ longer b [] k ∙ sym (ap (λ n. first_and_rest n (b ∷ [])) (length-longer b [] k))
]
lines_of-from b (c ∷ cs) = elim (cases_Bool (b == 10)) [
  | inl k ↦ ended b (c ∷ cs) k ∙ sym (ap (λ n. first_and_rest n (b ∷ c ∷ cs)) (length-ended b (c ∷ cs) k))
  | inr k ↦ longer b (c ∷ cs) k ∙ ap (with_byte b) (lines_of-from c cs) ∙ sym (ap (λ n. first_and_rest n (b ∷ c ∷ cs)) (length-longer b (c ∷ cs) k))
]

pub lines_of-first : (bytes : List ℕ) (n : ℕ) → n ≡ line_length bytes → 0 < length bytes → lines_of bytes ≡ take n bytes ∷ lines_of (drop (n + 1) bytes)
lines_of-first [] n e some = absurd (omega (arith, some))
lines_of-first (b ∷ bs) n e some =
    lines_of-from b bs ∙ ap (λ k. first_and_rest k (b ∷ bs)) (sym e) ∙ ap (λ k. take n (b ∷ bs) ∷ lines_of (drop k (b ∷ bs))) (let s : suc n ≡ n + 1 = omega arith in s)

-- what stands from the first # on
abbrev comment_of : List ℕ → List ℕ
comment_of line = drop (position_or_len (λ b. b == 35) line) line

-- what is left is the line's code, and all else
split_code : (n : ℕ) (bytes : List ℕ) → bytes ≡ code_of (take n bytes) ++ (comment_of (take n bytes) ++ drop n bytes)
split_code n bytes =
    let line = take n bytes in
    sym (take-append-drop n bytes)
    ∙ ap (λ l. l ++ drop n bytes) (sym (take-append-drop (position_or_len (λ b. b == 35) line) line))
    ∙ append_assoc (code_of line) (comment_of line) (drop n bytes)

-- a line was read where its bytes are the first of what is left, and one byte more is gone
pub advances : (old new : Lexing) (n : ℕ) (words : List Word) → 0 < length (text_left old) → n ≡ line_length (text_left old) → text_left new ≡ drop (n + 1) (text_left old)
    → has_bad_byte (take n (text_left old)) ≡ false → word_views words ≡ words_at old.at (code_of (take n (text_left old))) → new.text ≡ old.text → new.number ≡ old.number + 1
    → Advances old new new.number words
advances old new n words some e rest good views same next = record {
  numbered = next;
  first = lines_of-first (text_left old) n e some ∙ ap (λ k. take k (text_left old) ∷ lines_of (drop (n + 1) (text_left old))) e ∙ ap (λ bs. take (line_length (text_left old)) (text_left old) ∷ lines_of bs) (sym rest);
  good = ap (λ k. has_bad_byte (take k (text_left old))) (sym e) ∙ good;
  words_are = views ∙ ap (λ k. words_at old.at (code_of (take k (text_left old)))) e;
  spans = subst (λ ws. AreSpans old.text old.at ws) (sym views) (spans_of old.text old.at (code_of (take n (text_left old))) (comment_of (take n (text_left old)) ++ drop n (text_left old)) (split_code n (text_left old)));
  same_text = same;
  next_number = next;
  shorter = omega (arith, ap length rest, length-drop (n + 1) (text_left old), some);
}

-- the same of bytes that are what is left
pub advances_over : (old new : Lexing) (bytes : List ℕ) (n : ℕ) (words : List Word) → bytes ≡ text_left old → text_left new ≡ drop (n + 1) (text_left old) → new.text ≡ old.text → new.number ≡ old.number + 1
    → 0 < length bytes → n ≡ line_length bytes → has_bad_byte (take n bytes) ≡ false → word_views words ≡ words_at old.at (code_of (take n bytes))
    → Advances old new new.number words
advances_over old new bytes n words same rest text next =
    let P : List ℕ → Type 0 = λ bs. 0 < length bs → n ≡ line_length bs → has_bad_byte (take n bs) ≡ false → word_views words ≡ words_at old.at (code_of (take n bs)) → Advances old new new.number words in
    subst P (sym same) (λ some e good views. advances old new n words some e rest good views text next)

-- all that is left
pub take_rest : (at : ℕ) (text : List ℕ) → take (length text - at) (drop at text) ≡ drop at text
take_rest at text = take_all (length text - at) (drop at text) (omega (arith, length-drop at text))

-- where lines are left the first one is this line
pub lines_of-some : (bytes : List ℕ) → (lines_of bytes ≡ [] → ⊥) → lines_of bytes ≡ take (line_length bytes) bytes ∷ lines_of (drop (line_length bytes + 1) bytes)
lines_of-some [] some = absurd (some refl)
lines_of-some (b ∷ bs) some = lines_of-first (b ∷ bs) (line_length (b ∷ bs)) refl (omega arith)
