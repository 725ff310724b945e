-- What a text stands for, or its first fault.
use Rattle.std.specs.Prelude.{◌≡◌, ℕ, Bool, ◌+◌, nat_lt, List, [], ◌∷◌, ◌++◌, length, map, Option, None, Some, Result, Ok, Err, if◌then◌else◌}
use Rattle.std.specs.List.Sorted.{IsPermutation}
use Rattle.stg_net.specs.declared.limits.Limits.{Limits}
use Rattle.stg_net.specs.declared.spec.PlaceName.{PlaceName}
use Rattle.stg_net.specs.declared.spec.PlaceName.TheVariants as place_names
use Rattle.stg_net.specs.declared.trans.TransName.{TransName}
use Rattle.stg_net.specs.Net.{NetLists, IsNet}
use Rattle.stg_net.specs.Spec.{SpecLists}
use Rattle.astg_lex.specs.Lines.{lines_of, line_ends}
use Rattle.astg_read.specs.declared.rule.Rule.{Rule}
use Rattle.astg_read.specs.declared.rule.Rule.TheVariants.{NoGraph, NoEnd, TooLong}
use Rattle.astg_read.specs.Rows.{Row, has_graph}
use Rattle.astg_read.specs.Header.{Declared}
use Rattle.astg_read.specs.Graphs.{PlaceAt, Named, Between, trans_number}
use Rattle.astg_read.specs.Markings.{entries_of, entry_tokens}
use Rattle.astg_read.specs.Said.{Said, said, arcs_in}
use Rattle.astg_read.specs.Rules.{Line, seen_line, broken_by, ends_text}

-- a rule, and the line that breaks it
pub record Fault : Type 0 where
  pub rule : Rule
  pub line : ℕ

-- What a text stands for: a net with its arcs in the order of the text, its
-- places, and the names of its dummies.
pub record Meaning : Type 0 where
  pub lists : NetLists
  pub places : List PlaceAt
  pub dummies : List (List ℕ)

-- the tokens of a place
abbrev pub tokens_by : Declared → Option Row → PlaceAt → ℕ
tokens_by d None p = 0
tokens_by d (Some words) p = entry_tokens d (entries_of words) p

-- what the lines up to .end stand for
abbrev pub meaning_of : Said → Meaning
meaning_of k = record {
  lists = record {
    signals = k.declared.signals;
    trans = k.trans;
    tokens = map (tokens_by k.declared k.marking) k.places;
    arcs = arcs_in k;
  };
  places = k.places;
  dummies = k.declared.dummies;
}

-- the fault of a line, or what comes of the later ones
abbrev pub or_fault : ℕ → Option Rule → Result Meaning Fault → Result Meaning Fault
or_fault line None later = later
or_fault line (Some rule) later = Err (record { rule = rule; line = line })

-- where the text ends too early
abbrev pub missing : Bool → Rule
missing has_graph = if has_graph then NoEnd else NoGraph

-- What lines stand for after those before, or the first one that breaks a rule. Nothing after .end
-- is looked at. The text ends on a line of this number.
abbrev pub reading_after : Bool → Limits → ℕ → List Row → List Line → Result Meaning Fault
reading_after is_raw limits last before [] =
    Err (record { rule = missing (has_graph before); line = last })
reading_after is_raw limits last before (l ∷ ls) =
    or_fault (length before + 1) (broken_by is_raw limits before l)
    (if ends_text (said before) l.words then Ok (meaning_of (said before))
    else reading_after is_raw limits last (before ++ l.words ∷ []) ls)

-- what a text stands for, or its first fault
abbrev pub reading : Bool → Limits → List ℕ → Result Meaning Fault
reading is_raw limits text =
    if nat_lt limits.bytes (length text) then Err (record { rule = TooLong; line = 0 })
    else reading_after is_raw limits (line_ends text + 1) [] (map seen_line (lines_of text))

-- how a specification names a place: by its name, or by the numbers of two transitions
abbrev pub place_name : List TransName → PlaceAt → PlaceName
place_name trans (Named name) = place_names.Named name
place_name trans (Between t u) = place_names.Between (trans_number trans t) (trans_number trans u)

-- The specification of a text: its arcs are those of the text, in the order of a net.
pub record IsSpecOf (m : Meaning) (s : SpecLists) : Type 0 where
  pub signals : s.net.signals ≡ m.lists.signals
  pub trans : s.net.trans ≡ m.lists.trans
  pub tokens : s.net.tokens ≡ m.lists.tokens
  pub arcs : IsPermutation m.lists.arcs s.net.arcs
  pub is_net : IsNet s.net
  pub place_names : s.place_names ≡ map (place_name m.lists.trans) m.places
