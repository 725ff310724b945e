-- The keys of the map are the words of the transitions, in order.
use Rattle.std.proofs.Common.{◌≡◌, ℕ, ◌+◌, cond, not, nat_lt, List, [], ◌∷◌, ◌++◌, length, map, position, None, Some, refl, sym, ap, ◌∙◌}
use Rattle.std.specs.List.{position_or_len}
use Rattle.std.specs.Map.{keys_of}
use Rattle.std.specs.Str.{bytes_eq}
use Rattle.std.proofs.lemmas.List.{map-append, length-map}
use Rattle.indexmap.specs.IndexMap.{IndexMap, insert_entry}
use Rattle.indexmap.proofs.CallerLemmas.{insert_entry-new}
use Rattle.indexmap.proofs.MapLemmas.{Missing-position}
use Rattle.stg_steps.specs.inner.Reading.{place_in}
use Rattle.stg_steps.specs.inner.TransKeys.{Key, key_eq, entry_word}

first-words : (word : List ℕ) (es : List (Key × Unit {0})) → position_or_len (λ (k : Key). bytes_eq word k.items) (keys_of es) ≡ position_or_len (λ w. bytes_eq word w) (map entry_word es)
first-words word [] = refl
first-words word (e ∷ es) = ap (λ n. cond (not (bytes_eq word e.0.items)) (1 + n) 0) (first-words word es)

-- the index of a word among the keys is its place
pub position-words : (word : List ℕ) (es : List (Key × Unit {0})) → position (λ (k : Key). bytes_eq word k.items) (keys_of es) ≡ place_in (map entry_word es) word
position-words word es =
    let same = first-words word es in
    let long : length (keys_of es) ≡ length (map entry_word es) = length-map es _ ∙ sym (length-map es _) in
    (λ j. cond (nat_lt (same j) (long j)) (Some (same j)) None)

-- a new word goes last
pub inserted-words : {S : Type 0} (m : IndexMap Key (Unit {0}) S) (key : Key) → place_in (map entry_word m.entries) key.items ≡ None → map entry_word (insert_entry key_eq m.entries key tt) ≡ map entry_word m.entries ++ key.items ∷ []
inserted-words m key none =
    ap (map entry_word) (insert_entry-new key_eq m key tt (Missing-position (key_eq key) m.entries (position-words key.items m.entries ∙ none)).value)
    ∙ map-append entry_word m.entries ((key, tt) ∷ [])
