-- The keys of a builder's map are the names of its signals, in order.
use Rattle.std.proofs.Common.{◌≡◌, ℕ, ◌+◌, cond, not, nat_lt, List, [], ◌∷◌, ◌++◌, length, map, position, None, Some, refl, sym, ap, ◌∙◌}
use Rattle.std.specs.List.{position_or_len}
use Rattle.std.specs.Map.{keys_of}
use Rattle.std.specs.Str.{bytes_eq}
use Rattle.std.proofs.lemmas.List.{map-append, length-map}
use Rattle.indexmap.specs.IndexMap.{IndexMap, insert_entry}
use Rattle.indexmap.proofs.CallerLemmas.{insert_entry-new}
use Rattle.indexmap.proofs.MapLemmas.{Missing-position}
use Rattle.stg_net.specs.declared.signal.Signal.{Signal}
use Rattle.stg_net.specs.declared.signal.Kind.{Kind}
use Rattle.stg_net.specs.Net.{number_of}
use Rattle.stg_net.specs.Builder.{Name, name_eq, entry_signal}

first-signals : (name : List ℕ) (es : List (Name × Kind)) → position_or_len (λ (k : Name). bytes_eq name k.items) (keys_of es) ≡ position_or_len (λ (s : Signal). bytes_eq name s.name) (map entry_signal es)
first-signals name [] = refl
first-signals name (e ∷ es) = ap (λ n. cond (not (bytes_eq name e.0.items)) (1 + n) 0) (first-signals name es)

-- the index of a name among the keys is the number of the signal
pub position-signals : (name : List ℕ) (es : List (Name × Kind)) → position (λ (k : Name). bytes_eq name k.items) (keys_of es) ≡ number_of name (map entry_signal es)
position-signals name es =
    let same = first-signals name es in
    let long : length (keys_of es) ≡ length (map entry_signal es) = length-map es _ ∙ sym (length-map es _) in
    (λ j. cond (nat_lt (same j) (long j)) (Some (same j)) None)

-- a new name goes last
pub inserted-signals : {S : Type 0} (m : IndexMap Name Kind S) (key : Name) (kind : Kind) → number_of key.items (map entry_signal m.entries) ≡ None → map entry_signal (insert_entry name_eq m.entries key kind) ≡ map entry_signal m.entries ++ entry_signal (key, kind) ∷ []
inserted-signals m key kind none =
    ap (map entry_signal) (insert_entry-new name_eq m key kind (Missing-position (name_eq key) m.entries (position-signals key.items m.entries ∙ none)).value)
    ∙ map-append entry_signal m.entries ((key, kind) ∷ [])
