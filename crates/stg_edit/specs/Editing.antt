-- What contracts see of an editor.
use Rattle.std.specs.Prelude.{◌≤◌, ◌-◌, ℕ, List}
use Rattle.stg_net.specs.declared.signal.Signal.{Signal}
use Rattle.stg_net.specs.declared.trans.TransName.{TransName}
use Rattle.stg_net.specs.Net.{signal_at}
use Rattle.stg_net.specs.Graph.{Graph, FullName}

-- how many edits, places and arcs can still be made without memory
pub record Spare : Type 0 where
  pub edits : ℕ
  pub places : ℕ
  pub arcs : ℕ

-- the draft now, the drafts before each edit, what is spare, how many edits were undone, and the
-- signals of the net
pub record Editing : Type 0 where
  pub now : Graph
  pub past : List Graph
  pub spare : Spare
  pub undone : ℕ
  pub signals : List Signal

-- at least as much is spare
pub record IsAsMuch (least most : Spare) : Type 0 where
  pub edits : least.edits ≤ most.edits
  pub places : least.places ≤ most.places
  pub arcs : least.arcs ≤ most.arcs

-- so many edits, places and arcs less
abbrev pub less : Spare → ℕ → ℕ → ℕ → Spare
less s edits places arcs = record
    { edits = s.edits - edits; places = s.places - places; arcs = s.arcs - arcs }

-- one edit less
abbrev pub one_edit_less : Spare → Spare
one_edit_less s = record s { edits = s.edits - 1 }

-- the name of a transition, with the name of its signal
abbrev pub full_name_in : List Signal → TransName → FullName
full_name_in signals t = record
    { signal = (signal_at signals t.signal).name; edge = t.edge; index = t.index }
