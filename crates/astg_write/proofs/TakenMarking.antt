-- The row of the marking breaks no rule, and says each place's tokens.
use Rattle.std.proofs.Common.{◌≡◌, ◌+◌, ◌<◌, ◌≤◌, ◌==◌, ◌&&◌, ◌||◌, nat_eq, nat_lt, nat_le, ℕ, zero, suc, List, [], ◌∷◌, ◌++◌, Bool, true, false, cond, not, length, map, filter, flat_map, take, drop, get_or, refl, sym, ap, ◌∙◌, arith, inl, inr, All, AllPairs, Some, None, append-nil, unwrap_or, is_some}
use Rattle.std.proofs.lemmas.Bool.{and_parts, and_from, or_from, and_right, eq-eqb, cases_Bool, cases_eq, le-ltb, leb-true, ne_eqb}
use Rattle.std.proofs.lemmas.List.Elements.{All-head, All-tail, filter-append}
use Rattle.std.proofs.lemmas.List.Concat.{flat_map-append}
use Rattle.std.specs.List.{list_any, list_all}
use Rattle.std.specs.Option.{option_map_or}
use Rattle.std.specs.Str.{bytes_eq}
use Rattle.std.specs.Prelude.{codes, decimal, slice_index}
use Rattle.stg_net.specs.Names.{is_name, is_in_name}
use Rattle.stg_net.specs.Ordered.{listed_below}
use Rattle.astg_read.specs.Lists.{with_new}
use Rattle.astg_read.specs.Rows.{Word, Row}
use Rattle.astg_read.specs.Header.{Declared}
use Rattle.astg_read.specs.Graphs.{PlaceAt, Named, same_place}
use Rattle.astg_read.specs.Markings.{Entry, is_closing, token_words as words_of_tokens, entries_after, before_close, after_close, entries_of, starts_between, starts_place, starts_tokens, starts_entry, is_whole_place, is_whole, named_by, names_one, with_named, tokens_of, is_bad_entry, has_bad_entry, is_bad_marking, entry_tokens}
use Rattle.stg_net.proofs.NameBytes.{not_at, name-bytes}
use Rattle.astg_lex.proofs.DecimalLemmas.{number-decimal}
use Rattle.astg_lex.proofs.FirstLemmas.{before-missing, after-missing, after-later}
use Rattle.astg_lex.proofs.ListLemmas.{drop-none}
use Rattle.astg_write.proofs.WordForms.{digit-in_name, decimal-digits, all-weaker}
use Rattle.astg_write.proofs.WrittenRows.{token_words, entry_words}
use Rattle.astg_write.proofs.Listed.{any-append_none, any-append_right}
use Rattle.astg_write.specs.PlaceNames.{numbered_name}

-- a word of bytes of names is none of these
pub not_single : (v : ℕ) → is_in_name v ≡ false → (w : Word) → list_all is_in_name w ≡ true → bytes_eq w (v ∷ []) ≡ false
not_single v h [] k = refl
not_single v h (c ∷ cs) k =
    let p = and_parts (is_in_name c) (list_all is_in_name cs) k in
    ap (λ b. b && bytes_eq cs []) (not_at is_in_name v c h p.0)

-- the words before and after the closing one
before-closed : (ws : Row) → list_any is_closing ws ≡ false → before_close (ws ++ codes "}" ∷ []) ≡ ws
before-closed ws none = before-missing is_closing ws (codes "}" ∷ []) none ∙ append-nil ws

after-closed : (ws : Row) → list_any is_closing ws ≡ false → after_close (ws ++ codes "}" ∷ []) ≡ []
after-closed ws none = after-missing is_closing ws (codes "}" ∷ []) none

-- the numbers below n
abbrev pub numbers : ℕ → List ℕ
numbers n = listed_below (λ k. k ∷ []) n

module _ (prefix : List ℕ) (tokens : List ℕ) where
  abbrev pub count : ℕ → ℕ
  count p = slice_index tokens p

  -- the places with tokens
  abbrev pub has_tokens : ℕ → Bool
  has_tokens p = not (count p == 0)

  abbrev pub places_with_tokens : ℕ → List ℕ
  places_with_tokens m = filter has_tokens (numbers m)

  abbrev pub words_at : ℕ → Row
  words_at p = numbered_name prefix p ∷ token_words (count p)

  abbrev pub entry_for : ℕ → Entry
  entry_for p = record { place = numbered_name prefix p ∷ []; tokens = token_words (count p) }

  entry-listed : (m : ℕ) → listed_below (entry_words prefix tokens) m ≡ flat_map words_at (places_with_tokens m)
  entry-listed zero = refl
  entry-listed (suc m) =
      ap (λ l. l ++ entry_words prefix tokens m) (entry-listed m)
      ∙ ap (λ l. flat_map words_at (places_with_tokens m) ++ l) (by_case (count m == 0))
      ∙ sym (flat_map-append words_at (places_with_tokens m) (filter has_tokens (m ∷ [])))
      ∙ ap (flat_map words_at) (sym (filter-append has_tokens (numbers m) (m ∷ [])))
    where
      by_case : (b : Bool) → cond b [] (words_at m) ≡ flat_map words_at (cond (not b) (m ∷ []) [])
      by_case true = refl
      by_case false = sym (append-nil (words_at m))

  -- the place has a name, and its tokens can be read
  pub record IsGood (most : ℕ) (p : ℕ) : Type 0 where
    pub name : is_name (numbered_name prefix p) ≡ true
    pub short : count p < 1000000000
    pub within : count p ≤ most

  module _ (most : ℕ) where
    bytes-of : (p : ℕ) → IsGood most p → list_all is_in_name (numbered_name prefix p) ≡ true
    bytes-of p g = name-bytes (numbered_name prefix p) g.name

    digits-of : (p : ℕ) → IsGood most p → list_all is_in_name (decimal (count p)) ≡ true
    digits-of p g = all-weaker _ is_in_name digit-in_name (decimal (count p)) (decimal-digits (count p) (omega (arith, g.short)))

    no-close : (qs : List ℕ) → All (IsGood most) qs → list_any is_closing (flat_map words_at qs) ≡ false
    no-close [] h = refl
    no-close (q ∷ qs) h =
        let g = All-head (IsGood most) q qs h in
        any-append_none is_closing (words_at q) (flat_map words_at qs)
        (or_from (is_closing (numbered_name prefix q)) (list_any is_closing (token_words (count q))) (not_single 125 refl (numbered_name prefix q) (bytes-of q g)) (by_case (nat_le (count q) 1)))
        (no-close qs (All-tail (IsGood most) q qs h))
      where
        by_case : (b : Bool) → list_any is_closing (cond b [] (codes "=" ∷ decimal (count q) ∷ [])) ≡ false
        by_case true = refl
        by_case false = or_from (is_closing (decimal (count q))) false (not_single 125 refl (decimal (count q)) (digits-of q (All-head (IsGood most) q qs h))) refl

    no-tokens : (qs : List ℕ) → All (IsGood most) qs → words_of_tokens (flat_map words_at qs) ≡ []
    no-tokens [] h = refl
    no-tokens (q ∷ qs) h = let g = All-head (IsGood most) q qs h in
        ap (λ b. cond b (take 2 (numbered_name prefix q ∷ (token_words (count q) ++ flat_map words_at qs))) []) (not_single 61 refl (numbered_name prefix q) (bytes-of q g))

    -- the entries of written words
    entries-cut : (qs : List ℕ) → All (IsGood most) qs → entries_after zero (flat_map words_at qs) ≡ map entry_for qs
    entries-cut [] h = refl
    entries-cut (q ∷ qs) h =
        let g = All-head (IsGood most) q qs h in
        let t = All-tail (IsGood most) q qs h in
        let w = numbered_name prefix q in
        let ws = token_words (count q) ++ flat_map words_at qs in
        ap (λ b. cut_by b ws) (not_single 60 refl w (bytes-of q g))
        ∙ ap (λ l. (record { place = w ∷ []; tokens = words_of_tokens l }) ∷ entries_after (0 + length (words_of_tokens l)) ws) (drop-none ws)
        ∙ by_case (nat_le (count q) 1) (no-tokens qs t) (entries-cut qs t)
      where
        w : Word
        w = numbered_name prefix q

        cut_by : Bool → Row → List Entry
        cut_by b ws =
            let place = cond b (take 5 (numbered_name prefix q ∷ ws)) (numbered_name prefix q ∷ []) in
            let tokens = words_of_tokens (drop (length place) (numbered_name prefix q ∷ ws)) in
            record { place = place; tokens = tokens } ∷ entries_after (length (drop 1 place) + length tokens) ws

        by_case : (b : Bool) → words_of_tokens (flat_map words_at qs) ≡ [] → entries_after zero (flat_map words_at qs) ≡ map entry_for qs
            → record { place = numbered_name prefix q ∷ []; tokens = words_of_tokens (cond b [] (codes "=" ∷ decimal (count q) ∷ []) ++ flat_map words_at qs) }
            ∷ entries_after (0 + length (words_of_tokens (cond b [] (codes "=" ∷ decimal (count q) ∷ []) ++ flat_map words_at qs))) (cond b [] (codes "=" ∷ decimal (count q) ∷ []) ++ flat_map words_at qs)
            ≡ record { place = numbered_name prefix q ∷ []; tokens = cond b [] (codes "=" ∷ decimal (count q) ∷ []) } ∷ map entry_for qs
        by_case true none rest = (λ j. record { place = numbered_name prefix q ∷ []; tokens = none j } ∷ entries_after (0 + length (none j)) (flat_map words_at qs)) ∙ ap (λ es. record { place = numbered_name prefix q ∷ []; tokens = [] } ∷ es) rest
        by_case false none rest = ap (λ es. record { place = numbered_name prefix q ∷ []; tokens = codes "=" ∷ decimal (count q) ∷ [] } ∷ es) rest

    -- the number of tokens of an entry
    tokens-read : (p : ℕ) → IsGood most p → 1 ≤ count p → tokens_of (token_words (count p)) ≡ count p
    tokens-read p g some = elim (cases_Bool (nat_le (count p) 1)) [
      | inl k ↦ ap (λ b. tokens_of (cond b [] (codes "=" ∷ decimal (count p) ∷ []))) k ∙ (let e : 1 ≡ count p = omega (arith, some, leb-true (count p) 1 k) in e)
      | inr k ↦ ap (λ b. tokens_of (cond b [] (codes "=" ∷ decimal (count p) ∷ []))) k ∙ ap (λ o. unwrap_or o 1) (number-decimal (count p) g.short)
    ]

    name-names : (p : ℕ) → IsGood most p → named_by (numbered_name prefix p) ≡ Some (Named (numbered_name prefix p))
    name-names p g = ap (λ b. cond b None (Some (Named (numbered_name prefix p)))) (not_single 60 refl (numbered_name prefix p) (bytes-of p g))

    starts : (d : Declared) (p : ℕ) → IsGood most p → starts_entry d (entry_for p) ≡ true
    starts d p g =
        and_from (starts_place d (numbered_name prefix p ∷ [])) (starts_tokens (token_words (count p)))
        (ap (λ b. (b && true) || starts_between d (numbered_name prefix p ∷ [])) g.name)
        (by_case (nat_le (count p) 1))
      where
        by_case : (b : Bool) → starts_tokens (cond b [] (codes "=" ∷ decimal (count p) ∷ [])) ≡ true
        by_case true = refl
        by_case false = ap (λ o. is_some o && true) (number-decimal (count p) g.short)

    whole-place : (p : ℕ) → IsGood most p → is_whole_place (numbered_name prefix p ∷ []) ≡ true
    whole-place p g = ap not (not_single 60 refl (numbered_name prefix p) (bytes-of p g))

    whole : (p : ℕ) → IsGood most p → is_whole (entry_for p) ≡ true
    whole p g = and_from (is_whole_place (numbered_name prefix p ∷ [])) (not (nat_eq (length (token_words (count p))) 1)) (whole-place p g) (by_case (nat_le (count p) 1))
      where
        by_case : (b : Bool) → not (nat_eq (length (cond b [] (codes "=" ∷ decimal (count p) ∷ []))) 1) ≡ true
        by_case true = refl
        by_case false = refl

    entry-good : (d : Declared) (places seen : List PlaceAt) (p : ℕ) → IsGood most p → 1 ≤ count p → list_any (same_place (Named (numbered_name prefix p))) places ≡ true
        → list_any (same_place (Named (numbered_name prefix p))) seen ≡ false → is_bad_entry most d places true seen (entry_for p) ≡ false
    entry-good d places seen p g some there new =
        let e = entry_for p in
        let names = name-names p g in
        or_from (not (starts_entry d e) || (true && not (is_whole e)) || (is_whole_place e.place && (not (names_one d places e.place) || names_one d seen e.place))) (nat_lt most (tokens_of e.tokens))
        (or_from (not (starts_entry d e) || (true && not (is_whole e))) (is_whole_place e.place && (not (names_one d places e.place) || names_one d seen e.place))
        (or_from (not (starts_entry d e)) (true && not (is_whole e)) (ap not (starts d p g)) (ap not (whole p g)))
        (and_right (is_whole_place e.place) (not (names_one d places e.place) || names_one d seen e.place)
        (or_from (not (names_one d places e.place)) (names_one d seen e.place)
        (ap (λ o. not (option_map_or (λ x. list_any (same_place x) places) o false)) names ∙ ap not there)
        (ap (λ o. option_map_or (λ x. list_any (same_place x) seen) o false) names ∙ new))))
        (le-ltb most (tokens_of e.tokens) (let k = tokens-read p g some in omega (arith, k, g.within)))

    -- no entry is wrong
    entries-good : (d : Declared) (places seen : List PlaceAt) (qs : List ℕ) → All (IsGood most) qs → All (λ p. 1 ≤ count p) qs
        → All (λ p. list_any (same_place (Named (numbered_name prefix p))) places ≡ true) qs
        → All (λ p. list_any (same_place (Named (numbered_name prefix p))) seen ≡ false) qs
        → AllPairs (λ p q. same_place (Named (numbered_name prefix q)) (Named (numbered_name prefix p)) ≡ false) qs
        → has_bad_entry most d places true seen (map entry_for qs) ≡ false
    entries-good d places seen [] good some there new apart = refl
    entries-good d places seen (q ∷ qs) good some there new apart =
        let g = All-head (IsGood most) q qs good in
        let absent : list_any (same_place (Named (numbered_name prefix q))) seen ≡ false = All-head (λ p. list_any (same_place (Named (numbered_name prefix p))) seen ≡ false) q qs new in
        let grown : with_named d seen (numbered_name prefix q ∷ []) ≡ seen ++ Named (numbered_name prefix q) ∷ [] =
        ap (λ o. option_map_or (with_new same_place seen) o seen) (name-names q g) ∙ ap (λ b. cond b seen (seen ++ Named (numbered_name prefix q) ∷ [])) absent in
        or_from (is_bad_entry most d places true seen (entry_for q)) (has_bad_entry most d places true (with_named d seen (numbered_name prefix q ∷ [])) (map entry_for qs))
        (entry-good d places seen q g (All-head (λ p. 1 ≤ count p) q qs some) (All-head (λ p. list_any (same_place (Named (numbered_name prefix p))) places ≡ true) q qs there) absent)
        (ap (λ s. has_bad_entry most d places true s (map entry_for qs)) grown
        ∙ entries-good d places (seen ++ Named (numbered_name prefix q) ∷ []) qs (All-tail (IsGood most) q qs good) (All-tail (λ p. 1 ≤ count p) q qs some)
        (All-tail (λ p. list_any (same_place (Named (numbered_name prefix p))) places ≡ true) q qs there)
        (λ k e b. any-append_none (same_place (Named (numbered_name prefix (get_or qs k e)))) seen (Named (numbered_name prefix q) ∷ [])
        (All-tail (λ p. list_any (same_place (Named (numbered_name prefix p))) seen ≡ false) q qs new k e b)
        (or_from (same_place (Named (numbered_name prefix (get_or qs k e))) (Named (numbered_name prefix q))) false (apart 0 (suc k) e (omega arith) (omega (arith, b))) refl))
        (λ i j e l b. apart (suc i) (suc j) e (omega (arith, l)) (omega (arith, b))))

    -- the tokens that the entries give to a place
    pub tokens-found : (d : Declared) (p : ℕ) (qs : List ℕ) → All (IsGood most) qs → All (λ q. 1 ≤ count q) qs
        → All (λ q. (q ≡ p → ⊥) → same_place (Named (numbered_name prefix p)) (Named (numbered_name prefix q)) ≡ false) qs
        → same_place (Named (numbered_name prefix p)) (Named (numbered_name prefix p)) ≡ true
        → entry_tokens d (map entry_for qs) (Named (numbered_name prefix p)) ≡ cond (list_any (λ q. q == p) qs) (count p) 0
    tokens-found d p [] good some apart itself = refl
    tokens-found d p (q ∷ qs) good some apart itself =
        let g = All-head (IsGood most) q qs good in
        let rest = tokens-found d p qs (All-tail (IsGood most) q qs good) (All-tail (λ q. 1 ≤ count q) q qs some) (All-tail (λ q. (q ≡ p → ⊥) → same_place (Named (numbered_name prefix p)) (Named (numbered_name prefix q)) ≡ false) q qs apart) itself in
        let more = entry_tokens d (map entry_for qs) (Named (numbered_name prefix p)) in
        ap (λ o. cond (option_map_or (same_place (Named (numbered_name prefix p))) o false) (tokens_of (token_words (count q))) more) (name-names q g)
        ∙ elim (cases_eq q p) [
          | inl e ↦ ap (λ b. cond b (tokens_of (token_words (count q))) more) (ap (λ x. same_place (Named (numbered_name prefix p)) (Named (numbered_name prefix x))) e ∙ itself)
              ∙ tokens-read q g (All-head (λ q. 1 ≤ count q) q qs some) ∙ ap count e
              ∙ sym (ap (λ b. cond (b || list_any (λ q. q == p) qs) (count p) 0) (eq-eqb q p e))
          | inr n ↦ ap (λ b. cond b (tokens_of (token_words (count q))) more) (All-head (λ q. (q ≡ p → ⊥) → same_place (Named (numbered_name prefix p)) (Named (numbered_name prefix q)) ≡ false) q qs apart n)
              ∙ rest
              ∙ sym (ap (λ b. cond (b || list_any (λ q. q == p) qs) (count p) 0) (ne_eqb q p n))
        ]

    -- the words of the marking break no rule
    pub marking-good : (d : Declared) (places : List PlaceAt) (m : ℕ) → All (IsGood most) (places_with_tokens m) → All (λ p. 1 ≤ count p) (places_with_tokens m)
        → All (λ p. list_any (same_place (Named (numbered_name prefix p))) places ≡ true) (places_with_tokens m)
        → AllPairs (λ p q. same_place (Named (numbered_name prefix q)) (Named (numbered_name prefix p)) ≡ false) (places_with_tokens m)
        → (entries_of (codes "{" ∷ (listed_below (entry_words prefix tokens) m ++ codes "}" ∷ [])) ≡ map entry_for (places_with_tokens m))
        × (is_bad_marking most d places (codes "{" ∷ (listed_below (entry_words prefix tokens) m ++ codes "}" ∷ [])) ≡ false)
    marking-good d places m good some there apart =
        let ws = listed_below (entry_words prefix tokens) m in
        let same = entry-listed m in
        let none : list_any is_closing ws ≡ false = ap (list_any is_closing) same ∙ no-close (places_with_tokens m) good in
        let words = codes "{" ∷ (ws ++ codes "}" ∷ []) in
        let entries : entries_of words ≡ map entry_for (places_with_tokens m) =
        ap (λ l. entries_after zero (before_close l)) (drop-none (ws ++ codes "}" ∷ []))
        ∙ ap (entries_after zero) (before-closed ws none ∙ same) ∙ entries-cut (places_with_tokens m) good in
        let closed : list_any is_closing words ≡ true = any-append_right is_closing (codes "{" ∷ ws) (codes "}" ∷ []) refl in (
          entries,
          or_from (has_bad_entry most d places (list_any is_closing words) [] (entries_of words)) (nat_lt 0 (length (after_close words)))
              ((λ j. has_bad_entry most d places (closed j) [] (entries j)) ∙ entries-good d places [] (places_with_tokens m) good some there (λ k e b. refl) apart)
              (ap (λ l. nat_lt 0 (length l)) (after-later is_closing (codes "{") (ws ++ codes "}" ∷ []) refl ∙ after-closed ws none)),
        )
