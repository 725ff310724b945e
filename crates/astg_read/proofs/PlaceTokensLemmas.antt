-- The tokens that entries give.
use Rattle.std.proofs.Common.{◌≡◌, ℕ, ◌≤◌, List, [], ◌∷◌, Bool, true, false, cond, not, ◌||◌, ◌&&◌, nat_lt, Option, Some, None, option_map, inl, inr, refl, sym, ap, ◌∙◌, arith}
use Rattle.std.proofs.lemmas.Bool.{cases_lt, or_parts, lt-ltb, true≢false}
use Rattle.std.specs.List.{cons_option}
use Rattle.std.specs.Option.{option_map_or}
use Rattle.astg_read.specs.Header.{Declared}
use Rattle.astg_read.specs.Graphs.{PlaceAt, same_place}
use Rattle.astg_read.specs.Markings.{Entry, named_place, tokens_of, entry_tokens, is_bad_entry, has_bad_entry, with_named, starts_entry, is_whole, is_whole_place, names_one}
use Rattle.astg_read.specs.inner.PlaceTokens.{PlaceTokens, place_tokens_of, tokens_for}

at-cons : (o : Option PlaceAt) (n : ℕ) (ms : List PlaceTokens) (p : PlaceAt) (later : ℕ) → tokens_for ms p ≡ later
    → tokens_for (cons_option (option_map (λ q. record { place = q; tokens = n }) o) ms) p ≡ cond (option_map_or (same_place p) o false) n later
at-cons None n ms p later h = h
at-cons (Some q) n ms p later h = ap (λ l. cond (same_place p q) n l) h

-- the tokens for a place are those of its entry
pub tokens-place_tokens : (d : Declared) (es : List Entry) (p : PlaceAt) → tokens_for (place_tokens_of d es) p ≡ entry_tokens d es p
tokens-place_tokens d [] p = refl
tokens-place_tokens d (e ∷ es) p = at-cons (named_place d e.place) (tokens_of e.tokens) (place_tokens_of d es) p (entry_tokens d es p) (tokens-place_tokens d es p)

-- where no entry is wrong they are within the limit
pub tokens-within : (most : ℕ) (d : Declared) (places : List PlaceAt) (closed : Bool) (named : List PlaceAt) (es : List Entry) (p : PlaceAt) → has_bad_entry most d places closed named es ≡ false → entry_tokens d es p ≤ most
tokens-within most d places closed named [] p h = omega arith
tokens-within most d places closed named (e ∷ es) p h =
    let q = or_parts (is_bad_entry most d places closed named e) (has_bad_entry most d places closed (with_named d named e.place) es) h in
    let r = or_parts (not (starts_entry d e) || (closed && not (is_whole e)) || (is_whole_place e.place && (not (names_one d places e.place) || names_one d named e.place))) (nat_lt most (tokens_of e.tokens)) q.0 in
    by_test (option_map_or (same_place p) (named_place d e.place) false) (not-over r.1) (tokens-within most d places closed (with_named d named e.place) es p q.1)
  where
    not-over : nat_lt most (tokens_of e.tokens) ≡ false → tokens_of e.tokens ≤ most
    not-over k = elim (cases_lt most (tokens_of e.tokens)) [ inl a ↦ absurd (true≢false (sym (lt-ltb most (tokens_of e.tokens) a) ∙ k)) | inr b ↦ b ]

    by_test : (b : Bool) → tokens_of e.tokens ≤ most → entry_tokens d es p ≤ most → cond b (tokens_of e.tokens) (entry_tokens d es p) ≤ most
    by_test true x y = x
    by_test false x y = y
