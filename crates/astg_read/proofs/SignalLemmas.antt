-- The signals as the entries of a map.
use Rattle.std.proofs.Common.{◌≡◌, ℕ, List, [], ◌∷◌, ◌++◌, true, false, map, position, None, Some, refl, sym, ap, ◌∙◌}
use Rattle.std.specs.Borrow.{Bor}
use Rattle.std.specs.List.{list_any}
use Rattle.std.specs.Map.{keys_of}
use Rattle.std.proofs.lemmas.Bool.{or_parts}
use Rattle.std.specs.Str.{bytes_eq}
use Rattle.stg_net.specs.declared.signal.Signal.{Signal}
use Rattle.stg_net.specs.declared.signal.Kind.{Kind}
use Rattle.stg_net.specs.Net.{number_of}
use Rattle.astg_read.specs.Header.{same_name}
use Rattle.astg_read.specs.Lists.{has_repeat}
use Rattle.astg_read.specs.inner.Views.{signal_view}
use Rattle.astg_read.proofs.NumberLemmas.{any-found, any-missing, position-none}
use Rattle.astg_read.proofs.Keyed.{position-entry}

-- the index of a name among the keys is the number of the signal
pub position-signals : (name : List ℕ) (es : List (Bor (List ℕ) × Kind)) → position (λ (k : Bor (List ℕ)). bytes_eq name k.now) (keys_of es) ≡ number_of name (map signal_view es)
position-signals name es = position-entry (λ (k : Bor (List ℕ)). bytes_eq name k.now) (λ (s : Signal). bytes_eq name s.name) signal_view (λ e. refl) es

-- a name with an index among the keys is a signal's
pub found-signal : (name : List ℕ) (kind : Kind) (es : List (Bor (List ℕ) × Kind)) (signals : List Signal) (n : ℕ) → map signal_view es ≡ signals
    → Some n ≡ position (λ (k : Bor (List ℕ)). bytes_eq name k.now) (keys_of es) → list_any (same_name (record { name = name; kind = kind })) signals ≡ true
found-signal name kind es signals n view at =
    any-found (λ (s : Signal). bytes_eq name s.name) signals n (sym (at ∙ position-signals name es ∙ ap (number_of name) view))

-- a name without one is no signal's
pub missing-signal : (name : List ℕ) (kind : Kind) (es : List (Bor (List ℕ) × Kind)) (signals : List Signal) → map signal_view es ≡ signals
    → None ≡ position (λ (k : Bor (List ℕ)). bytes_eq name k.now) (keys_of es) → list_any (same_name (record { name = name; kind = kind })) signals ≡ false
missing-signal name kind es signals view at =
    any-missing (λ (s : Signal). bytes_eq name s.name) signals (sym (at ∙ position-signals name es ∙ ap (number_of name) view))

-- a name that doesn't stand again is no signal's yet
pub signal-new : (signals : List Signal) (name : Bor (List ℕ)) (kind : Kind) (rest all : List (Bor (List ℕ) × Kind)) → all ≡ (name, kind) ∷ rest
    → has_repeat same_name signals (map signal_view all) ≡ false → number_of name.now signals ≡ None
signal-new signals name kind rest all e h =
    position-none (λ (s : Signal). bytes_eq name.now s.name) signals
    (or_parts (list_any (same_name (signal_view (name, kind))) signals) (has_repeat same_name (signals ++ signal_view (name, kind) ∷ []) (map signal_view rest))
    (sym (ap (λ es. has_repeat same_name signals (map signal_view es)) e) ∙ h)).0
