-- The names that the header declares.
use Rattle.std.specs.Prelude.{Bool, List, [], map, flat_map, codes, bytes_eq, if◌then◌else◌}
use Rattle.std.specs.List.{list_any}
use Rattle.stg_net.specs.declared.signal.Kind.{Kind}
use Rattle.stg_net.specs.declared.signal.Kind.TheVariants.{Input, Output, Internal}
use Rattle.stg_net.specs.declared.signal.Signal.{Signal}
use Rattle.astg_read.specs.Rows.{Word, Row, begins, other_words, header_rows}

-- The signals in order of declaration, and the names of those that are dummies.
pub record Declared : Type 0 where
  pub signals : List Signal
  pub dummies : List Word

-- signals of one kind
abbrev pub signals_of : Kind → Row → List Signal
signals_of kind names = map (λ name. record { name = name; kind = kind }) names

-- the signals that a line declares; a dummy counts as an internal one
abbrev pub signals_on : Row → List Signal
signals_on row =
    if begins (codes ".inputs") row then signals_of Input (other_words row)
    else if begins (codes ".outputs") row then signals_of Output (other_words row)
    else if begins (codes ".internal") row then signals_of Internal (other_words row)
    else if begins (codes ".dummy") row then signals_of Internal (other_words row)
    else []

-- the dummies that a line declares
abbrev pub dummies_on : Row → Row
dummies_on row = if begins (codes ".dummy") row then other_words row else []

-- what the lines declare before .graph
abbrev pub declared_in : List Row → Declared
declared_in rows =
    record {
      signals = flat_map signals_on (header_rows rows);
      dummies = flat_map dummies_on (header_rows rows);
    }

-- the two signals have one name
abbrev pub same_name : Signal → Signal → Bool
same_name s t = bytes_eq s.name t.name

-- the name is a declared dummy's
abbrev pub is_dummy : Declared → Word → Bool
is_dummy declared_in name = list_any (bytes_eq name) declared_in.dummies
