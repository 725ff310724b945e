-- Settled entries of a marking, and the words after them.
use Rattle.std.proofs.Math.Bool.{and-false}
use Rattle.std.proofs.Common.{◌≡◌, ◌+◌, ◌-◌, ◌<◌, ◌≤◌, ℕ, zero, suc, List, [], ◌∷◌, ◌++◌, Bool, true, false, cond, not, ◌&&◌, ◌||◌, inl, inr, drop, take, length, map, nat_lt, nat_eq, refl, sym, ap, subst, ◌∙◌, arith, append_assoc, append-nil, take_all}
use Rattle.astg_lex.proofs.ListLemmas.{take-none, drop-none}
use Rattle.std.proofs.lemmas.Bool.{cases_Bool, or_parts}
use Rattle.std.specs.Borrow.{Bor}
use Rattle.std.proofs.lemmas.List.{drop-append-le, drop-drop, drop_all, length-append, length-drop, length-map, length-take-le, take-map, drop-map}
use Rattle.astg_read.specs.declared.entries.Entry.{Entry as ReadEntry}
use Rattle.std.specs.List.{list_any}
use Rattle.astg_read.specs.declared.marking_check.MarkingCheck.{MarkingCheck}
use Rattle.astg_read.specs.inner.MarkingCheck.{IsSettled}
use Rattle.astg_read.specs.inner.Views.{place_view, slices_view, entry_view}
use Rattle.astg_read.proofs.EntryLemmas.{skipped, one-more}
use Rattle.astg_lex.proofs.FirstLemmas.{before-missing, before-none, length-before, first-from}
use Rattle.std.proofs.lemmas.List.Sums.{prefix_len-le-length}
use Rattle.astg_read.specs.Rows.{Word, Row}
use Rattle.astg_read.specs.Header.{Declared}
use Rattle.astg_read.specs.Graphs.{PlaceAt}
use Rattle.astg_read.specs.Markings.{Entry, entry_at, opens_place, is_equals, token_words, further_words, entries_after, is_bad_entry, has_bad_entry, with_named, is_whole, is_closing, before_close, starts_entry, is_whole_place, names_one, tokens_of}
use Rattle.astg_read.specs.inner.Fronts.{front_entry, close_length}

-- more words behind a word after them leave the token words
tokens-kept : (ws more : Row) → length (token_words ws) < length ws → token_words (ws ++ more) ≡ token_words ws
tokens-kept [] more h = absurd (omega (arith, h))
tokens-kept (v ∷ []) more h = elim (cases_Bool (is_equals v)) [
  | inl k ↦ absurd (omega (arith, h, ap (λ b. length (cond b (v ∷ []) [])) k))
  | inr k ↦ ap (λ b. cond b (take 2 (v ∷ more)) []) k ∙ sym (ap (λ b. cond b (take 2 (v ∷ [])) []) k)
]
tokens-kept (v ∷ u ∷ us) more h = ap (λ ts. cond (is_equals v) (v ∷ u ∷ ts) []) (take-none (us ++ more) ∙ sym (take-none us))

-- a word stands after them, so none is missing
tokens-whole : (ws : Row) → length (token_words ws) < length ws → nat_eq (length (token_words ws)) 1 ≡ false
tokens-whole [] h = absurd (omega (arith, h))
tokens-whole (v ∷ []) h = elim (cases_Bool (is_equals v)) [
  | inl k ↦ absurd (omega (arith, h, ap (λ b. length (cond b (v ∷ []) [])) k))
  | inr k ↦ ap (λ b. nat_eq (length (cond b (v ∷ []) [])) 1) k
]
tokens-whole (v ∷ u ∷ us) h = elim (cases_Bool (is_equals v)) [
  | inl k ↦ ap (λ b. nat_eq (length (cond b (v ∷ u ∷ take zero us) [])) 1) k
  | inr k ↦ ap (λ b. nat_eq (length (cond b (v ∷ u ∷ take zero us) [])) 1) k
]

-- the entry in front, by whether its place opens with <
abbrev entry_by : Bool → Word → Row → Entry
entry_by b w ws = let place = cond b (take 5 (w ∷ ws)) (w ∷ []) in record { place = place; tokens = token_words (drop (length place) (w ∷ ws)) }

kept-by : (b : Bool) (w : Word) (ws more : Row) → further_words (entry_by b w ws) < length ws → entry_by b w (ws ++ more) ≡ entry_by b w ws
kept-by b w [] more h = absurd (omega (arith, h))
kept-by false w (a ∷ ws) more h = ap (λ ts. record { place = w ∷ []; tokens = ts }) (tokens-kept (a ∷ ws) more (omega (arith, h)))
kept-by true w (a ∷ []) more h = absurd (omega (arith, h))
kept-by true w (a ∷ b ∷ []) more h = absurd (omega (arith, h))
kept-by true w (a ∷ b ∷ c ∷ []) more h = absurd (omega (arith, h))
kept-by true w (a ∷ b ∷ c ∷ e ∷ []) more h = absurd (omega (arith, h))
kept-by true w (a ∷ b ∷ c ∷ e ∷ f ∷ ws) more h = ap (λ ts. record { place = w ∷ a ∷ b ∷ c ∷ e ∷ []; tokens = ts }) (tokens-kept (f ∷ ws) more (omega (arith, h)))

whole-by : (b : Bool) (w : Word) (ws : Row) → opens_place w ≡ b → further_words (entry_by b w ws) < length ws → is_whole (entry_by b w ws) ≡ true
whole-by b w [] o h = absurd (omega (arith, h))
whole-by false w (a ∷ ws) o h = (λ j. not (o j) && not (tokens-whole (a ∷ ws) (omega (arith, h)) j))
whole-by true w (a ∷ []) o h = absurd (omega (arith, h))
whole-by true w (a ∷ b ∷ []) o h = absurd (omega (arith, h))
whole-by true w (a ∷ b ∷ c ∷ []) o h = absurd (omega (arith, h))
whole-by true w (a ∷ b ∷ c ∷ e ∷ []) o h = absurd (omega (arith, h))
whole-by true w (a ∷ b ∷ c ∷ e ∷ f ∷ ws) o h = ap (λ b. not b) (tokens-whole (f ∷ ws) (omega (arith, h)))

-- an entry with a word after it is whole, and more words leave it
entry-kept : (w : Word) (ws more : Row) → further_words (entry_at w ws) < length ws → entry_at w (ws ++ more) ≡ entry_at w ws
entry-kept w ws more h = kept-by (opens_place w) w ws more h

entry-whole : (w : Word) (ws : Row) → further_words (entry_at w ws) < length ws → is_whole (entry_at w ws) ≡ true
entry-whole w ws h = whole-by (opens_place w) w ws refl h

-- the words after {
abbrev rest_of : List (Bor (List ℕ)) → List (Bor (List ℕ))
rest_of words = take (length words - 1) (drop 1 words)

rest-slices_view : (words : List (Bor (List ℕ))) → slices_view (rest_of words) ≡ drop 1 (slices_view words)
rest-slices_view words = ap slices_view (take_all (length words - 1) (drop 1 words) (omega (arith, length-drop 1 words))) ∙ sym (drop-map (λ (w : Bor (List ℕ)). w.now) 1 words)

pub before-slices_view : (words : List (Bor (List ℕ))) (n : ℕ) → n ≡ close_length (slices_view (rest_of words)) → slices_view (take n (rest_of words)) ≡ before_close (drop 1 (slices_view words))
before-slices_view words n k =
    sym (take-map (λ (w : Bor (List ℕ)). w.now) n (rest_of words)) ∙ ap (λ m. take m (slices_view (rest_of words))) k ∙ ap before_close (rest-slices_view words)

pub within-close : (words : List (Bor (List ℕ))) (n : ℕ) → n ≤ length (before_close (drop 1 (slices_view words))) → n ≤ close_length (slices_view (rest_of words))
within-close words n h = omega (arith, h, length-before is_closing (drop 1 (slices_view words)), ap close_length (rest-slices_view words))

pub within-rest : (words : List (Bor (List ℕ))) (n : ℕ) → n ≤ length (before_close (drop 1 (slices_view words))) → n ≤ length (rest_of words)
within-rest words n h = omega (arith, within-close words n h, prefix_len-le-length (λ w. not (is_closing w)) (slices_view (rest_of words)), length-map (rest_of words) (λ (w : Bor (List ℕ)). w.now))

-- the } is found behind the first words
pub close-found : (n : ℕ) (words : List (Bor (List ℕ))) (k : ℕ) → n ≤ close_length (slices_view words) → k ≡ close_length (slices_view (take (length words - n) (drop n words))) → n + k ≡ close_length (slices_view words)
close-found n words k h e =
    omega (arith, e, ap close_length (ap slices_view (take_all (length words - n) (drop n words) (omega (arith, length-drop n words))) ∙ sym (drop-map (λ (w : Bor (List ℕ)). w.now) n words)), first-from is_closing n (slices_view words) h)

module _ (most : ℕ) (d : Declared) (places : List PlaceAt) where
  -- With any words behind them, these words are as wrong as those after the first ones, whose entries name these places.
  abbrev pub Judged : List PlaceAt → ℕ → Row → Type 0
  Judged named k words = (c : Bool) (more : Row) → has_bad_entry most d places c [] (entries_after zero (words ++ more)) ≡ has_bad_entry most d places c named (entries_after zero (drop k words ++ more))

  -- whether the marking is closed says nothing of a whole entry
  same-closed : (named : List PlaceAt) (e : Entry) (c c' : Bool) → is_whole e ≡ true → is_bad_entry most d places c named e ≡ is_bad_entry most d places c' named e
  same-closed named e c c' h = whole c ∙ sym (whole c')
    where
      with_closed : Bool → Bool
      with_closed b = not (starts_entry d e) || b || (is_whole_place e.place && (not (names_one d places e.place) || names_one d named e.place)) || nat_lt most (tokens_of e.tokens)

      whole : (b : Bool) → is_bad_entry most d places b named e ≡ with_closed false
      whole b = ap (λ x. with_closed (b && not x)) h ∙ ap with_closed (and-false b)

  -- the entry in front is settled where a word stands after it
  judged-front : (named : List PlaceAt) (w : Word) (ws more : Row) (c c0 : Bool) → further_words (entry_at w ws) < length ws → is_bad_entry most d places c0 named (entry_at w ws) ≡ false
      → has_bad_entry most d places c named (entries_after zero ((w ∷ ws) ++ more)) ≡ has_bad_entry most d places c (with_named d named (entry_at w ws).place) (entries_after zero (drop (suc (further_words (entry_at w ws))) (w ∷ ws) ++ more))
  judged-front named w ws more c c0 h good =
      let e = entry_at w ws in
      let named' = with_named d named e.place in
      ap (λ (x : Entry). has_bad_entry most d places c named (x ∷ entries_after (further_words x) (ws ++ more))) (entry-kept w ws more h)
      ∙ ap (λ b. b || has_bad_entry most d places c named' (entries_after (further_words e) (ws ++ more))) (same-closed named e c c0 (entry-whole w ws h) ∙ good)
      ∙ ap (has_bad_entry most d places c named') (skipped (further_words e) (ws ++ more) ∙ ap (entries_after zero) (drop-append-le (further_words e) ws more (omega (arith, h))))

  pub judged-next : (named : List PlaceAt) (k : ℕ) (words row : Row) (e : Entry) (n : ℕ) (c0 : Bool) → drop k words ≡ row → 0 < length row → e ≡ front_entry row → 1 ≤ length e.place → n ≡ length e.place + length e.tokens → n < length row
      → is_bad_entry most d places c0 named e ≡ false → Judged named k words → Judged (with_named d named e.place) (k + n) words
  judged-next named k words [] e n c0 left some is least count more_left good judged = absurd (omega (arith, some))
  judged-next named k words (w ∷ ws) e n c0 left some is least count more_left good judged = λ c more.
      let all : n ≡ suc (further_words e) = count ∙ one-more e.place (length e.tokens) least in
      let h : further_words (entry_at w ws) < length ws = omega (arith, more_left, all, ap (λ (x : Entry). further_words x) is) in
      judged c more
      ∙ ap (λ us. has_bad_entry most d places c named (entries_after zero (us ++ more))) left
      ∙ judged-front named w ws more c c0 h (ap (is_bad_entry most d places c0 named) (sym is) ∙ good)
      ∙ ap (λ (x : Entry). has_bad_entry most d places c (with_named d named x.place) (entries_after zero (drop (suc (further_words x)) (w ∷ ws) ++ more))) (sym is)
      ∙ ap (λ us. has_bad_entry most d places c (with_named d named e.place) (entries_after zero (us ++ more))) (ap (λ m. drop m (w ∷ ws)) (sym all) ∙ ap (drop n) (sym left) ∙ drop-drop n k words)

  judged-all : (named : List PlaceAt) (k : ℕ) (words row : Row) → drop k words ≡ row → Judged named k words → (c : Bool) → has_bad_entry most d places c [] (entries_after zero words) ≡ has_bad_entry most d places c named (entries_after zero row)
  judged-all named k words row left judged c =
      ap (λ us. has_bad_entry most d places c [] (entries_after zero us)) (sym (append-nil words))
      ∙ judged c []
      ∙ ap (λ us. has_bad_entry most d places c named (entries_after zero us)) (append-nil (drop k words) ∙ left)

  -- nothing is left
  pub judged-end : (named : List PlaceAt) (k : ℕ) (words : Row) (c : Bool) → length words ≤ k → Judged named k words → has_bad_entry most d places c [] (entries_after zero words) ≡ false
  judged-end named k words c h judged = judged-all named k words [] (drop_all k words h) judged c

  -- the entry in front is wrong
  pub judged-bad : (named : List PlaceAt) (k : ℕ) (words row : Row) (e : Entry) (c : Bool) → drop k words ≡ row → 0 < length row → e ≡ front_entry row → is_bad_entry most d places c named e ≡ true → Judged named k words
      → has_bad_entry most d places c [] (entries_after zero words) ≡ true
  judged-bad named k words [] e c left some is bad judged = absurd (omega (arith, some))
  judged-bad named k words (w ∷ ws) e c left some is bad judged =
      judged-all named k words (w ∷ ws) left judged c
      ∙ ap (λ b. b || has_bad_entry most d places c (with_named d named (entry_at w ws).place) (entries_after (further_words (entry_at w ws)) ws)) (ap (is_bad_entry most d places c named) (sym is) ∙ bad)

  -- the entry in front is the last one, and isn't wrong
  pub judged-last : (named : List PlaceAt) (k : ℕ) (words row : Row) (e : Entry) (c : Bool) → drop k words ≡ row → 0 < length row → e ≡ front_entry row → 1 ≤ length e.place → length row ≡ length e.place + length e.tokens
      → is_bad_entry most d places c named e ≡ false → Judged named k words → has_bad_entry most d places c [] (entries_after zero words) ≡ false
  judged-last named k words [] e c left some is least count good judged = absurd (omega (arith, some))
  judged-last named k words (w ∷ ws) e c left some is least count good judged =
      let f = entry_at w ws in
      let all : suc (length ws) ≡ suc (further_words e) = count ∙ one-more e.place (length e.tokens) least in
      judged-all named k words (w ∷ ws) left judged c
      ∙ ap (λ b. b || has_bad_entry most d places c (with_named d named f.place) (entries_after (further_words f) ws)) (ap (is_bad_entry most d places c named) (sym is) ∙ good)
      ∙ ap (has_bad_entry most d places c (with_named d named f.place)) (skipped (further_words f) ws ∙ ap (entries_after zero) (drop_all (further_words f) ws (omega (arith, all, ap (λ (x : Entry). further_words x) is))))

  -- words that are added leave what is settled
  pub settled-longer : (s : MarkingCheck) (words more : Row) → IsSettled most d places s words → IsSettled most d places s (words ++ more)
  settled-longer s words more h = record {
    within = omega (arith, h.within, length-append words more);
    judged = λ c us.
        ap (λ x. has_bad_entry most d places c [] (entries_after zero x)) (append_assoc words more us)
        ∙ h.judged c (more ++ us)
        ∙ ap (λ x. has_bad_entry most d places c (map place_view s.named.keys) (entries_after zero x)) (sym (append_assoc (drop s.words words) more us) ∙ ap (λ x. x ++ us) (sym (drop-append-le s.words words more h.within)));
  }

  -- a line is added to a marking that has no } yet
  pub settled-grown : (s : MarkingCheck) (words line : Row) → list_any is_closing words ≡ false → IsSettled most d places s (before_close (drop 1 words)) → IsSettled most d places s (before_close (drop 1 (words ++ line)))
  settled-grown s [] line h settled = settled-longer s [] (before_close (drop 1 line)) settled
  settled-grown s (w ∷ ws) line h settled =
      let none : list_any is_closing ws ≡ false = (or_parts (is_closing w) (list_any is_closing ws) h).1 in
      subst (IsSettled most d places s) (sym (ap before_close (drop-none (ws ++ line)) ∙ before-missing is_closing ws line none))
      (settled-longer s ws (before_close line) (subst (IsSettled most d places s) (ap before_close (drop-none ws) ∙ before-none is_closing ws none) settled))

  module _ (words : List (Bor (List ℕ))) (s : MarkingCheck) (h : IsSettled most d places s (slices_view words)) where
    -- the words that aren't settled
    abbrev rest : List (Bor (List ℕ))
    rest = take (length words - s.words) (drop s.words words)

    left : drop s.words (slices_view words) ≡ slices_view rest
    left = sym (ap slices_view (take_all (length words - s.words) (drop s.words words) (omega (arith, length-drop s.words words))) ∙ sym (drop-map (λ (w : Bor (List ℕ)). w.now) s.words words))

    rest-length : length (slices_view rest) ≡ length words - s.words
    rest-length = length-map rest (λ (w : Bor (List ℕ)). w.now) ∙ length-take-le (length words - s.words) (drop s.words words) (omega (arith, length-drop s.words words))

    abbrev named : List PlaceAt
    named = map place_view s.named.keys

    -- all are settled
    pub end-in : (c : Bool) → length words ≤ s.words → has_bad_entry most d places c [] (entries_after zero (slices_view words)) ≡ false
    end-in c k = judged-end named s.words (slices_view words) c (omega (arith, k, length-map words (λ (w : Bor (List ℕ)). w.now))) h.judged

    module _ (e : ReadEntry) (some : s.words < length words) (views : entry_view e ≡ front_entry (slices_view rest)) (least : 1 ≤ length e.place.now) (c : Bool) where
      place-length : length (entry_view e).place ≡ length e.place.now
      place-length = length-map e.place.now (λ (w : Bor (List ℕ)). w.now)

      tokens-length : length (entry_view e).tokens ≡ length e.tokens.now
      tokens-length = length-map e.tokens.now (λ (w : Bor (List ℕ)). w.now)

      pub bad-in : is_bad_entry most d places c named (entry_view e) ≡ true → has_bad_entry most d places c [] (entries_after zero (slices_view words)) ≡ true
      bad-in bad = judged-bad named s.words (slices_view words) (slices_view rest) (entry_view e) c left (omega (arith, some, rest-length)) views bad h.judged

      pub last-in : is_bad_entry most d places c named (entry_view e) ≡ false → length e.place.now + length e.tokens.now ≡ length words - s.words → has_bad_entry most d places c [] (entries_after zero (slices_view words)) ≡ false
      last-in good all = judged-last named s.words (slices_view words) (slices_view rest) (entry_view e) c left (omega (arith, some, rest-length)) views (omega (arith, least, place-length)) (omega (arith, all, rest-length, place-length, tokens-length)) good h.judged

      pub next-in : (s' : MarkingCheck) → is_bad_entry most d places c named (entry_view e) ≡ false → length e.place.now + length e.tokens.now < length words - s.words → s'.words ≡ s.words + (length e.place.now + length e.tokens.now)
          → map place_view s'.named.keys ≡ with_named d named (slices_view e.place.now) → IsSettled most d places s' (slices_view words)
      next-in s' good more count names = record {
        within = omega (arith, count, more, length-map words (λ (w : Bor (List ℕ)). w.now));
        judged = λ b us.
            judged-next named s.words (slices_view words) (slices_view rest) (entry_view e) (length e.place.now + length e.tokens.now) c left (omega (arith, some, rest-length)) views (omega (arith, least, place-length)) (omega (arith, place-length, tokens-length)) (omega (arith, more, rest-length)) good h.judged b us
            ∙ (λ j. has_bad_entry most d places b (sym names j) (entries_after zero (drop (sym count j) (slices_view words) ++ us)));
      }
