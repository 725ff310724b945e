-- The places that the entries of a marking name, with their tokens.
use Rattle.std.specs.Prelude.{ℕ, List, [], ◌∷◌, Option, option_map, filter_map, if◌then◌else◌}
use Rattle.astg_read.specs.Header.{Declared}
use Rattle.astg_read.specs.Graphs.{PlaceAt, same_place}
use Rattle.astg_read.specs.Markings.{Entry, named_place, tokens_of}

-- a place and its tokens
pub record PlaceTokens : Type 0 where
  pub place : PlaceAt
  pub tokens : ℕ

-- the place that an entry names, with its tokens, where it names one
abbrev pub entry_place_tokens : Declared → Entry → Option PlaceTokens
entry_place_tokens d e =
    option_map (λ p. record { place = p; tokens = tokens_of e.tokens }) (named_place d e.place)

-- the places that entries name, with their tokens, in order
abbrev pub place_tokens_of : Declared → List Entry → List PlaceTokens
place_tokens_of d entries = filter_map (entry_place_tokens d) entries

-- the tokens for a place: those with which it is named first, or none
abbrev pub tokens_for : List PlaceTokens → PlaceAt → ℕ
tokens_for [] p = 0
tokens_for (m ∷ ms) p = if same_place p m.place then m.tokens else tokens_for ms p
