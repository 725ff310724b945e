-- Transition words.
use Rattle.std.specs.Prelude.{ℕ, ◌==◌, List, [], ◌∷◌, length, take_while, drop, Option, None, Some, if◌then◌else◌, option_map, option_and_then}
use Rattle.stg_net.specs.declared.trans.Edge.{Edge}
use Rattle.stg_net.specs.declared.trans.Edge.TheVariants.{Rise, Fall, Toggle}
use Rattle.stg_net.specs.Names.{is_in_name, is_name}
use Rattle.astg_lex.specs.Numbers.{number}
use Rattle.astg_read.specs.Rows.{Word}

-- what a transition word says: a name, an edge, and an index
pub record WordOfTrans : Type 0 where
  pub name : List ℕ
  pub edge : Edge
  pub index : ℕ

-- the edge of + (43), - (45) or ~ (126)
abbrev pub edge_of : ℕ → Option Edge
edge_of c =
    if c == 43 then Some Rise
    else if c == 45 then Some Fall
    else if c == 126 then Some Toggle
    else None

-- the index 0 where nothing stands, and the number after / (47)
abbrev pub index_of : Word → Option ℕ
index_of [] = Some 0
index_of (c ∷ cs) = if c == 47 then number cs else None

-- an edge, and the index after it
abbrev pub change_of : Word → Option (Edge × ℕ)
change_of [] = None
change_of (c ∷ cs) =
    option_and_then (λ edge. option_map (λ index. (edge, index)) (index_of cs)) (edge_of c)

-- the longest name in front, an edge, and the index after it
abbrev pub read_trans_word : Word → Option WordOfTrans
read_trans_word w =
    let name = take_while is_in_name w in
    if is_name name
    then option_map (λ (c : Edge × ℕ). record { name = name; edge = c.0; index = c.1 })
    (change_of (drop (length name) w))
    else None
