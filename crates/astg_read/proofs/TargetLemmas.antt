-- The targets of words, one after the other.
use Rattle.std.proofs.Common.{◌≡◌, ◌<◌, ℕ, zero, suc, List, [], ◌∷◌, ◌++◌, cond, inl, inr, filter_map, Option, None, Some, option_map, drop, take, length, map, refl, sym, ap, ◌∙◌, arith, ◌-◌, take_all, length-drop, append_assoc}
use Rattle.astg_lex.proofs.ListLemmas.{passed-over}
use Rattle.std.proofs.lemmas.Bool.{cases_Bool}
use Rattle.std.proofs.lemmas.List.{map-append, length-map, drop-map}
use Rattle.astg_lex.specs.declared.words.Word.{Word}
use Rattle.astg_read.specs.declared.targets.Target.{Target as ReadTarget}
use Rattle.astg_read.specs.inner.Views.{texts, target_view}
use Rattle.astg_read.specs.Rows.{Row}
use Rattle.astg_read.specs.Targets.{target_at, targets_after, group_at, opens_group, words_in}
use Rattle.std.specs.Borrow.{Bor}
use Rattle.std.specs.List.{cons_option}
use Rattle.astg_read.specs.inner.Fronts.{target_words, front_target}

-- words that are passed over
skipped : (n : ℕ) (ws : Row) → targets_after n ws ≡ targets_after zero (drop n ws)
skipped n ws = passed-over targets_after (λ k. refl) (λ k w us. refl) n ws

drop-taken : (n : ℕ) (ws : Row) → drop (length (take n ws)) ws ≡ drop n ws
drop-taken zero [] = refl
drop-taken (suc n) [] = refl
drop-taken zero (w ∷ ws) = refl
drop-taken (suc n) (w ∷ ws) = drop-taken n ws

from_front : (w : List ℕ) (ws : Row) → targets_after zero (w ∷ ws) ≡ target_at w ws ∷ targets_after zero (drop (target_words (w ∷ ws)) (w ∷ ws))
from_front w ws = elim (cases_Bool (opens_group w)) [
  | inl k ↦ ap (λ b. target_at w ws ∷ targets_after (cond b 2 (length (group_at ws))) ws) k ∙ ap (λ ts. target_at w ws ∷ ts) (skipped 2 ws ∙ ap (targets_after zero) (sym (drop-taken 3 (w ∷ ws))))
      ∙ sym (ap (λ b. target_at w ws ∷ targets_after zero (drop (cond b (length (take 3 (w ∷ ws))) (suc (length (group_at ws)))) (w ∷ ws))) k)
  | inr k ↦ ap (λ b. target_at w ws ∷ targets_after (cond b 2 (length (group_at ws))) ws) k ∙ ap (λ ts. target_at w ws ∷ ts) (skipped (length (group_at ws)) ws)
      ∙ sym (ap (λ b. target_at w ws ∷ targets_after zero (drop (cond b (length (take 3 (w ∷ ws))) (suc (length (group_at ws)))) (w ∷ ws))) k)
]

pub targets_after-front : (ws : Row) → 0 < length ws → targets_after zero ws ≡ front_target ws ∷ targets_after zero (drop (target_words ws) ws)
targets_after-front [] some = absurd (omega (arith, some))
targets_after-front (w ∷ ws) some = from_front w ws

-- what is read and what is left make the same targets after one more
pub targets-preserved : (old new : List ReadTarget) (t : ReadTarget) (rest : List Word) (n : ℕ) → new ≡ old ++ t ∷ [] → target_view t ≡ front_target (texts rest) → n ≡ target_words (texts rest) → 0 < length rest
    → map target_view new ++ targets_after zero (texts (take (length rest - n) (drop n rest))) ≡ map target_view old ++ targets_after zero (texts rest)
targets-preserved old new t rest n pushed views count some =
    let left : texts (take (length rest - n) (drop n rest)) ≡ drop (target_words (texts rest)) (texts rest) =
    ap texts (take_all (length rest - n) (drop n rest) (omega (arith, length-drop n rest))) ∙ sym (drop-map (λ (w : Word). w.text.now) n rest) ∙ ap (λ k. drop k (texts rest)) count in
    let front : targets_after zero (texts rest) ≡ front_target (texts rest) ∷ targets_after zero (drop (target_words (texts rest)) (texts rest)) =
    targets_after-front (texts rest) (omega (arith, some, length-map rest (λ (w : Word). w.text.now))) in
    ap (λ ts. map target_view ts ++ targets_after zero (texts (take (length rest - n) (drop n rest)))) pushed
    ∙ ap (λ ws. map target_view (old ++ t ∷ []) ++ targets_after zero ws) left
    ∙ ap (λ ts. ts ++ targets_after zero (drop (target_words (texts rest)) (texts rest))) (map-append target_view old (t ∷ []))
    ∙ append_assoc (map target_view old) (target_view t ∷ []) (targets_after zero (drop (target_words (texts rest)) (texts rest)))
    ∙ ap (λ f. map target_view old ++ f ∷ targets_after zero (drop (target_words (texts rest)) (texts rest))) views
    ∙ ap (λ ts. map target_view old ++ ts) (sym front)

-- the words of targets that have one
abbrev pub given_words : List ReadTarget → List (Bor (List ℕ))
given_words ts = filter_map (λ (t : ReadTarget). t.word) ts

-- they are the words of the targets as specs see them
pub words_in-views : (ts : List ReadTarget) → words_in (map target_view ts) ≡ map (λ (w : Bor (List ℕ)). w.now) (given_words ts)
words_in-views [] = refl
words_in-views (t ∷ ts) = by t.word (words_in-views ts)
  where
    by : (o : Option (Bor (List ℕ))) → words_in (map target_view ts) ≡ map (λ (w : Bor (List ℕ)). w.now) (given_words ts)
        → cons_option (option_map (λ (w : Bor (List ℕ)). w.now) o) (words_in (map target_view ts)) ≡ map (λ (w : Bor (List ℕ)). w.now) (cons_option o (given_words ts))
    by None e = e
    by (Some w) e = ap (λ ws. w.now ∷ ws) e
