-- The log of a text, read line by line.
use Rattle.std.proofs.Common.{◌≡◌, ◌<◌, ◌≤◌, ◌+◌, ◌==◌, ℕ, zero, suc, length-append, Bool, true, false, cond, List, [], ◌∷◌, codes, length, take, drop, Option, Some, None, Result, Ok, Err, refl, sym, ap, ◌∙◌, arith, inl, inr}
use Rattle.std.specs.Str.{bytes_eq}
use Rattle.std.specs.Prelude.{unwrap_or}
use Rattle.std.proofs.lemmas.Bool.{cases_Bool, false≢true}
use Rattle.astg_lex.specs.Lines.{line_ends}
use Rattle.astg_lex.proofs.ListLemmas.{drop-none}
use Rattle.stg_net.specs.Net.{NetLists}
use Rattle.stg_steps.specs.declared.log.Log.{Log}
use Rattle.stg_steps.specs.LogText.{LogRow, word_at}
use Rattle.stg_net.specs.Ordered.{listed_below}
use Rattle.astg_lex.specs.Lines.{with_byte}
use Rattle.stg_steps.specs.inner.Reading.{pieces, trans_words, with_row, is_over, or_bad, log_after, log_in}
use Rattle.stg_steps.specs.inner.Taking.{TakesLine}
use Rattle.stg_steps.proofs.FirstLines.{line_ends-more, line_ends-same}
use Rattle.stg_steps.proofs.Pieces.{piece_length, no_length, more_length, has_front, pieces_front, pieces-last, pieces-first}

not_over-front : (b : ℕ) (ws : LogRow) → is_over (with_byte b ws) ≡ false
not_over-front b [] = refl
not_over-front b (w ∷ ws) = refl

pub not_over-more : (ws : LogRow) → has_front ws ≡ true → is_over ([] ∷ ws) ≡ false
not_over-more [] h = absurd (false≢true h)
not_over-more (w ∷ ws) h = refl

-- only where no byte is left is the text over
pub not_over : (bs : List ℕ) → (bs ≡ [] → ⊥) → is_over (pieces 10 bs) ≡ false
not_over [] some = absurd (some refl)
not_over (b ∷ bs) some = elim (cases_Bool (b == 10)) [
  | inl k ↦ ap (λ s. is_over (cond s ([] ∷ pieces 10 bs) (with_byte b (pieces 10 bs)))) k ∙ not_over-more (pieces 10 bs) (pieces_front 10 bs)
  | inr k ↦ ap (λ s. is_over (cond s ([] ∷ pieces 10 bs) (with_byte b (pieces 10 bs)))) k ∙ not_over-front b (pieces 10 bs)
]

-- the lines taken so far
pub record Reached (n : NetLists) (text : List ℕ) (number : ℕ) (log : Log) (rest : List ℕ) : Type 0 where
  pub same : log_after n number log (pieces 10 rest) ≡ log_in n text
  pub fits : number + line_ends rest ≤ line_ends text + 1

ends_first : (bs : List ℕ) → piece_length 10 bs < length bs → line_ends bs ≡ line_ends (drop (suc (piece_length 10 bs)) bs) + 1
ends_first [] lt = absurd (omega (arith, lt))
ends_first (b ∷ bs) lt = elim (cases_Bool (b == 10)) [
  | inl k ↦
      line_ends-more b bs k ∙ ap (λ xs. line_ends xs + 1) (sym (drop-none bs))
      ∙ sym (ap (λ m. line_ends (drop (suc m) (b ∷ bs)) + 1) (no_length 10 b bs k))
  | inr k ↦
      let longer = more_length 10 b bs k in
      line_ends-same b bs k ∙ ends_first bs (omega (arith, lt, longer)) ∙ sym (ap (λ m. line_ends (drop (suc m) (b ∷ bs)) + 1) longer)
]

pub ends_after : (bs next : List ℕ) (k : ℕ) → k ≡ piece_length 10 bs → k < length bs → next ≡ drop (k + 1) bs → line_ends bs ≡ line_ends next + 1
ends_after bs next k e lt next_is =
    let more : suc k ≡ k + 1 = omega arith in
    ends_first bs (omega (arith, e, lt)) ∙ ap (λ m. line_ends (drop (suc m) bs) + 1) (sym e) ∙ ap (λ m. line_ends (drop m bs) + 1) more ∙ ap (λ xs. line_ends xs + 1) (sym next_is)

module _ (n : NetLists) (text : List ℕ) (number : ℕ) (log : Log) (rest : List ℕ) (r : Reached n text number log rest) (k : ℕ) (k_is : k ≡ piece_length 10 rest) where
  -- what is left has no LF
  pub cut_off : k ≤ length rest → length rest ≤ k → log_in n text ≡ Err number
  cut_off most least = sym r.same ∙ ap (log_after n number log) (pieces-last 10 rest (omega (arith, k_is, most, least)))

  module _ (line next : List ℕ) (below : k < length rest) (line_is : line ≡ take k rest) (next_is : next ≡ drop (k + 1) rest) where
    abbrev told : Option Log
    told = with_row n (trans_words n) log (pieces 32 line)

    abbrev outcome : LogRow → Result Log ℕ
    outcome p = cond (bytes_eq line (codes "end")) (cond (is_over p) (Ok log) (Err (number + 1))) (or_bad number told (log_after n (number + 1) (unwrap_or told log) p))

    step : (p : LogRow) → has_front p ≡ true → log_after n number log (line ∷ p) ≡ outcome p
    step [] h = absurd (false≢true h)
    step (w ∷ p) h = refl

    next_line : log_in n text ≡ outcome (pieces 10 next)
    next_line = sym r.same ∙ ap (log_after n number log) (pieces-first 10 rest k k_is below ∙ ap (λ l. l ∷ pieces 10 (drop (k + 1) rest)) (sym line_is) ∙ ap (λ xs. line ∷ pieces 10 xs) (sym next_is)) ∙ step (pieces 10 next) (pieces_front 10 next)

    pub ends_here : bytes_eq line (codes "end") ≡ true → next ≡ [] → log_in n text ≡ Ok log
    ends_here e none = next_line ∙ ap (λ b. cond b (cond (is_over (pieces 10 next)) (Ok log) (Err (number + 1))) (or_bad number told (log_after n (number + 1) (unwrap_or told log) (pieces 10 next)))) e ∙ ap (λ xs. cond (is_over (pieces 10 xs)) (Ok log) (Err (number + 1))) none

    pub goes_past : bytes_eq line (codes "end") ≡ true → (next ≡ [] → ⊥) → log_in n text ≡ Err (number + 1)
    goes_past e some = next_line ∙ ap (λ b. cond b (cond (is_over (pieces 10 next)) (Ok log) (Err (number + 1))) (or_bad number told (log_after n (number + 1) (unwrap_or told log) (pieces 10 next)))) e ∙ ap (λ b. cond b (Ok log) (Err (number + 1))) (not_over next some)

    other : bytes_eq line (codes "end") ≡ false → log_in n text ≡ or_bad number told (log_after n (number + 1) (unwrap_or told log) (pieces 10 next))
    other e = next_line ∙ ap (λ b. cond b (cond (is_over (pieces 10 next)) (Ok log) (Err (number + 1))) (or_bad number told (log_after n (number + 1) (unwrap_or told log) (pieces 10 next)))) e

    pub tells_nothing : bytes_eq line (codes "end") ≡ false → told ≡ None → log_in n text ≡ Err number
    tells_nothing e none = other e ∙ ap (λ o. or_bad number o (log_after n (number + 1) (unwrap_or o log) (pieces 10 next))) none

    pub goes_on : (new : Log) → bytes_eq line (codes "end") ≡ false → told ≡ Some new → Reached n text (number + 1) new next
    goes_on new e some = record {
      same = sym (other e ∙ ap (λ o. or_bad number o (log_after n (number + 1) (unwrap_or o log) (pieces 10 next))) some);
      fits = omega (arith, r.fits, ends_after rest next k k_is below next_is);
    }

-- a list is empty where its length is 0
pub none_left : (bs : List ℕ) → length bs ≡ 0 → bs ≡ []
none_left [] e = refl
none_left (b ∷ bs) e = absurd (omega (arith, e))

pub takes_none : (taken : Bool) (o : Option Log) (new : Log) → TakesLine taken o new → taken ≡ false → o ≡ None
takes_none true o new h e = absurd (false≢true (sym e))
takes_none false o new h e = h

pub takes_some : (taken : Bool) (o : Option Log) (new : Log) → TakesLine taken o new → taken ≡ true → o ≡ Some new
takes_some true o new h e = h
takes_some false o new h e = absurd (false≢true e)

-- as many words as transitions
pub length-words : (n : NetLists) → length (trans_words n) ≡ length n.trans
length-words n = singles (word_at n) (length n.trans)
  where
    singles : (f : ℕ → List ℕ) (k : ℕ) → length (listed_below (λ t. f t ∷ []) k) ≡ k
    singles f zero = refl
    singles f (suc k) = length-append (listed_below (λ t. f t ∷ []) k) (f k ∷ []) ∙ (let e = singles f k in omega (arith, e))
