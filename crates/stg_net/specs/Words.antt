-- The words of transitions.
use Rattle.std.specs.Prelude.{ℕ, List, [], ◌∷◌, ◌++◌, slice_get, if◌then◌else◌, ◌==◌, decimal}
use Rattle.std.specs.Option.{option_map_or}
use Rattle.stg_net.specs.declared.trans.Edge.{Edge}
use Rattle.stg_net.specs.declared.trans.Edge.TheVariants.{Rise, Fall, Toggle}
use Rattle.stg_net.specs.declared.signal.Signal.{Signal}
use Rattle.stg_net.specs.declared.trans.TransName.{TransName}

-- how an edge is written: + for rise, - for fall, ~ for toggle
abbrev pub sign_of : Edge → ℕ
sign_of Rise = 43
sign_of Fall = 45
sign_of Toggle = 126

-- the name of the signal of that number
abbrev pub name_at : List Signal → ℕ → List ℕ
name_at signals k = option_map_or (λ (s : Signal). s.name) (slice_get signals k) []

-- no index where it is 0
abbrev pub index_text : ℕ → List ℕ
index_text k = if k == 0 then [] else 47 ∷ decimal k

-- a transition's word: its signal's name, its edge and its index
abbrev pub word_of : List Signal → TransName → List ℕ
word_of signals t = name_at signals t.signal ++ sign_of t.edge ∷ index_text t.index

-- the word of the transition of that number
abbrev pub trans_word : List Signal → List TransName → ℕ → List ℕ
trans_word signals trans t = option_map_or (word_of signals) (slice_get trans t) []
