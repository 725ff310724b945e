-- The entries of a marking's words, one after the other.
use Rattle.std.proofs.Common.{◌≡◌, ◌+◌, ◌-◌, ◌<◌, ◌≤◌, ℕ, zero, suc, List, [], ◌∷◌, ◌++◌, drop, take, length, get_or, refl, sym, ap, ◌∙◌, arith, None, take_all, length-drop, append_assoc}
use Rattle.astg_lex.proofs.ListLemmas.{passed-over}
use Rattle.std.specs.Borrow.{Bor}
use Rattle.std.proofs.lemmas.List.{map-append, length-map, drop-map}
use Rattle.stg_net.specs.declared.signal.Signal.{Signal}
use Rattle.astg_read.specs.declared.entries.Entry.{Entry as ReadEntry}
use Rattle.astg_read.specs.Rows.{Word, Row}
use Rattle.astg_read.specs.inner.NoDummies.{without_dummies}
use Rattle.astg_read.specs.Markings.{Entry, entry_at, further_words, entries_after, named_by, between_both, named_place}
use Rattle.astg_read.specs.inner.Fronts.{front_entry}
use Rattle.astg_read.specs.Nodes.{trans_of_word}
use Rattle.astg_read.specs.inner.Views.{slices_view, entry_view, entry_views}

-- words that are passed over
pub skipped : (n : ℕ) (ws : Row) → entries_after n ws ≡ entries_after zero (drop n ws)
skipped n ws = passed-over entries_after (λ k. refl) (λ k w us. refl) n ws

-- the entry in front, and those after its words
from_front : (w : Word) (ws : Row) (n : ℕ) → n ≡ suc (further_words (entry_at w ws)) → entries_after zero (w ∷ ws) ≡ entry_at w ws ∷ entries_after zero (drop n (w ∷ ws))
from_front w ws n e = ap (λ es. entry_at w ws ∷ es) (skipped (further_words (entry_at w ws)) ws) ∙ ap (λ k. entry_at w ws ∷ entries_after zero (drop k (w ∷ ws))) (sym e)

pub one-more : (place : Row) (tokens : ℕ) → 1 ≤ length place → length place + tokens ≡ suc (length (drop 1 place) + tokens)
one-more [] t h = absurd (omega (arith, h))
one-more (p ∷ ps) t h = omega arith

-- the entry that was cut off in front
cut-front : (rest : List (Bor (List ℕ))) (e : Entry) (n : ℕ) → 0 < length rest → e ≡ front_entry (slices_view rest) → 1 ≤ length e.place → n ≡ length e.place + length e.tokens
    → entries_after zero (slices_view rest) ≡ e ∷ entries_after zero (drop n (slices_view rest))
cut-front [] e n some s h k = absurd (omega (arith, some))
cut-front (w ∷ ws) e n some s h k =
    from_front w.now (slices_view ws) n (k ∙ one-more e.place (length e.tokens) h ∙ ap (λ (x : Entry). suc (further_words x)) s)
    ∙ ap (λ x. x ∷ entries_after zero (drop n (slices_view (w ∷ ws)))) (sym s)

-- what is read and what is left make the same entries after one more
pub entries-preserved : (old new : List ReadEntry) (e : ReadEntry) (rest : List (Bor (List ℕ))) (n : ℕ) → new ≡ old ++ e ∷ [] → entry_view e ≡ front_entry (slices_view rest) → 1 ≤ length e.place.now
    → n ≡ length e.place.now + length e.tokens.now → 0 < length rest
    → entry_views new ++ entries_after zero (slices_view (take (length rest - n) (drop n rest))) ≡ entry_views old ++ entries_after zero (slices_view rest)
entries-preserved old new e rest n pushed views least count some =
    let left : slices_view (take (length rest - n) (drop n rest)) ≡ drop n (slices_view rest) =
    ap slices_view (take_all (length rest - n) (drop n rest) (omega (arith, length-drop n rest))) ∙ sym (drop-map (λ (w : Bor (List ℕ)). w.now) n rest) in
    let p : length (entry_view e).place ≡ length e.place.now = length-map e.place.now (λ (w : Bor (List ℕ)). w.now) in
    let t : length (entry_view e).tokens ≡ length e.tokens.now = length-map e.tokens.now (λ (w : Bor (List ℕ)). w.now) in
    let front = cut-front rest (entry_view e) n some views (omega (arith, least, p)) (omega (arith, count, p, t)) in
    ap (λ es. entry_views es ++ entries_after zero (slices_view (take (length rest - n) (drop n rest)))) pushed
    ∙ ap (λ ws. entry_views (old ++ e ∷ []) ++ entries_after zero ws) left
    ∙ ap (λ es. es ++ entries_after zero (drop n (slices_view rest))) (map-append entry_view old (e ∷ []))
    ∙ append_assoc (entry_views old) (entry_view e ∷ []) (entries_after zero (drop n (slices_view rest)))
    ∙ ap (λ es. entry_views old ++ es) (sym front)

-- words of another number name no place
pub named-none : (signals : List Signal) (ws : List (Bor (List ℕ))) → (length ws ≡ 1 → ⊥) → (length ws ≡ 5 → ⊥) → None ≡ named_place (without_dummies signals) (slices_view ws)
named-none signals [] h k = refl
named-none signals (a ∷ []) h k = absurd (h refl)
named-none signals (a ∷ b ∷ []) h k = refl
named-none signals (a ∷ b ∷ c ∷ []) h k = refl
named-none signals (a ∷ b ∷ c ∷ d ∷ []) h k = refl
named-none signals (a ∷ b ∷ c ∷ d ∷ e ∷ []) h k = absurd (k refl)
named-none signals (a ∷ b ∷ c ∷ d ∷ e ∷ f ∷ ws) h k = refl

-- one word
pub named-one : (signals : List Signal) (ws : List (Bor (List ℕ))) (x : Bor (List ℕ)) → length ws ≡ 1 → named_by (get_or ws 0 x).now ≡ named_place (without_dummies signals) (slices_view ws)
named-one signals [] x h = absurd (omega (arith, h))
named-one signals (a ∷ []) x h = refl
named-one signals (a ∷ b ∷ ws) x h = absurd (omega (arith, h))

-- five words
pub named-five : (signals : List Signal) (ws : List (Bor (List ℕ))) (x : Bor (List ℕ)) → length ws ≡ 5
    → between_both (trans_of_word (without_dummies signals) (get_or ws 1 x).now) (trans_of_word (without_dummies signals) (get_or ws 3 x).now) ≡ named_place (without_dummies signals) (slices_view ws)
named-five signals [] x h = absurd (omega (arith, h))
named-five signals (a ∷ []) x h = absurd (omega (arith, h))
named-five signals (a ∷ b ∷ []) x h = absurd (omega (arith, h))
named-five signals (a ∷ b ∷ c ∷ []) x h = absurd (omega (arith, h))
named-five signals (a ∷ b ∷ c ∷ d ∷ []) x h = absurd (omega (arith, h))
named-five signals (a ∷ b ∷ c ∷ d ∷ e ∷ []) x h = refl
named-five signals (a ∷ b ∷ c ∷ d ∷ e ∷ f ∷ ws) x h = absurd (omega (arith, h))
