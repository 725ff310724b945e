-- The words of transitions as the keys of a map.
use Rattle.std.specs.Prelude.{ℕ, List, Bool, nat_eq}
use Rattle.std.specs.Cmp.Lexicographic.{pointwise}
use Rattle.std.specs.Global.{Vec}

-- a word, as the map keeps it
abbrev pub Key : Type 0
Key = Vec ℕ

-- whether two words have the same bytes
abbrev pub key_eq : Key → Key → Bool
key_eq x y = pointwise nat_eq x.items y.items

-- the word of an entry
abbrev pub entry_word : Key × Unit {0} → List ℕ
entry_word e = e.0.items
