-- Where a marking ends.
use Rattle.std.proofs.Common.{◌≡◌, ◌+◌, ◌-◌, ◌<◌, ℕ, zero, List, [], ◌∷◌, true, false, ◌||◌, nat_lt, inl, inr, take, drop, get_or, length, refl, sym, ap, ◌∙◌, arith}
use Rattle.std.proofs.Math.Bool.{or-false}
use Rattle.std.proofs.lemmas.Bool.{cases_lt, lt-ltb, le-ltb, or_right}
use Rattle.std.proofs.lemmas.List.{length-drop}
use Rattle.std.proofs.lemmas.Slice.Eq.{bytes_eq-Decides}
use Rattle.astg_lex.proofs.FirstLemmas.{after-later, found-within}
use Rattle.std.specs.Prelude.{codes}
use Rattle.std.specs.List.{list_any}
use Rattle.std.specs.Borrow.{Bor}
use Rattle.std.proofs.lemmas.List.{length-map}
use Rattle.astg_read.specs.inner.Views.{slices_view}
use Rattle.astg_read.specs.Rows.{Word, Row}
use Rattle.astg_read.specs.Header.{Declared}
use Rattle.astg_read.specs.Graphs.{PlaceAt}
use Rattle.astg_read.specs.Markings.{is_opening, is_closing, before_close, after_close, entries_after, has_bad_entry, is_bad_marking}
use Rattle.astg_read.specs.inner.Fronts.{close_length}

-- how many words there are after it
after-length : (ws : Row) → length (after_close ws) ≡ length ws - (close_length ws + 1)
after-length ws = length-drop (close_length ws + 1) ws

-- whether there is one
closed-from : (ws : Row) (n : ℕ) → n ≡ length ws → list_any is_closing ws ≡ nat_lt (close_length ws) n
closed-from ws n e = found-within is_closing ws ∙ ap (nat_lt (close_length ws)) (sym e)

-- whether words follow it
followed-from : (ws : Row) (n : ℕ) → n ≡ length ws → nat_lt 0 (length (after_close ws)) ≡ nat_lt 1 (n - close_length ws)
followed-from ws n e = by_length (length (after_close ws)) (n - close_length ws) (omega (arith, after-length ws, e))
  where
    by_length : (m k : ℕ) → m ≡ k - 1 → nat_lt 0 m ≡ nat_lt 1 k
    by_length m k h = elim (cases_lt 0 m) [ inl p ↦ lt-ltb 0 m p ∙ sym (lt-ltb 1 k (omega (arith, p, h))) | inr q ↦ le-ltb 0 m q ∙ sym (le-ltb 1 k (omega (arith, q, h))) ]

module _ (most : ℕ) (d : Declared) (places : List PlaceAt) where
  -- a marking that begins with {
  pub opened : (w : Word) (ws : Row) → is_opening w ≡ true
      → is_bad_marking most d places (w ∷ ws) ≡ (has_bad_entry most d places (list_any is_closing ws) [] (entries_after zero (before_close ws)) || nat_lt 0 (length (after_close ws)))
  opened w ws h =
      let e : w ≡ codes "{" = (bytes_eq-Decides w (codes "{")).0 h in
      ap (λ v. is_bad_marking most d places (v ∷ ws)) e
      ∙ ap (λ us. has_bad_entry most d places (list_any is_closing ws) [] (entries_after zero (before_close ws)) || nat_lt 0 (length us)) (after-later is_closing (codes "{") ws refl)

  -- the same of words that are slices of the text
  opened-words : (words : List (Bor (List ℕ))) (x : Bor (List ℕ)) → 0 < length words → is_opening (get_or words 0 x).now ≡ true
      → is_bad_marking most d places (slices_view words) ≡ (has_bad_entry most d places (list_any is_closing (slices_view (drop 1 words))) [] (entries_after zero (before_close (slices_view (drop 1 words)))) || nat_lt 0 (length (after_close (slices_view (drop 1 words)))))
  opened-words [] x some h = absurd (omega (arith, some))
  opened-words (w ∷ ws) x some h = opened w.now (slices_view ws) h

  module _ (words : List (Bor (List ℕ))) (x : Bor (List ℕ)) (some : 0 < length words) (h : is_opening (get_or words 0 x).now ≡ true) (rest : List (Bor (List ℕ))) (e : rest ≡ drop 1 words) (count : ℕ) (k : count ≡ close_length (slices_view rest)) where
    abbrev long : ℕ
    long = length rest

    view-long : long ≡ length (slices_view rest)
    view-long = sym (length-map rest (λ (w : Bor (List ℕ)). w.now))

    by_rest : is_bad_marking most d places (slices_view words) ≡ (has_bad_entry most d places (nat_lt count long) [] (entries_after zero (take count (slices_view rest))) || nat_lt 1 (long - count))
    by_rest = opened-words words x some h
        ∙ ap (λ ws. has_bad_entry most d places (list_any is_closing (slices_view ws)) [] (entries_after zero (before_close (slices_view ws))) || nat_lt 0 (length (after_close (slices_view ws)))) (sym e)
        ∙ (λ j. has_bad_entry most d places ((closed-from (slices_view rest) long view-long ∙ ap (λ n. nat_lt n long) (sym k)) j) [] (entries_after zero (ap (λ n. take n (slices_view rest)) (sym k) j)) || (followed-from (slices_view rest) long view-long ∙ ap (λ n. nat_lt 1 (long - n)) (sym k)) j)

    -- words follow the end
    pub followed : nat_lt 1 (long - count) ≡ true → is_bad_marking most d places (slices_view words) ≡ true
    followed t = by_rest ∙ or_right (has_bad_entry most d places (nat_lt count long) [] (entries_after zero (take count (slices_view rest)))) (nat_lt 1 (long - count)) t

    -- none do
    pub not-followed : nat_lt 1 (long - count) ≡ false → is_bad_marking most d places (slices_view words) ≡ has_bad_entry most d places (nat_lt count long) [] (entries_after zero (take count (slices_view rest)))
    not-followed t = by_rest ∙ ap (λ b. has_bad_entry most d places (nat_lt count long) [] (entries_after zero (take count (slices_view rest))) || b) t ∙ or-false (has_bad_entry most d places (nat_lt count long) [] (entries_after zero (take count (slices_view rest))))
