-- Marks of what the arcs of a net show.
use Rattle.std.specs.Prelude.{◌≡◌, ℕ, Bool, false, not, ◌&&◌, ◌||◌, ◌==◌, List, slice_index_or}
use Rattle.std.specs.List.{list_any}
use Rattle.stg_net.specs.declared.arc.NetArc.{NetArc}
use Rattle.stg_net.specs.Net.{NetLists}
use Rattle.stg_net.specs.Component.{is_one_of}
use Rattle.stg_laws.specs.Groups.{signal_of}

-- whether a transition of an own signal takes by the arc
abbrev pub own_takes : NetLists → List ℕ → NetArc → Bool
own_takes n own a = not a.into && is_one_of own (signal_of n a)

-- the mark of that number
abbrev pub mark_at : List Bool → ℕ → Bool
mark_at marks k = slice_index_or marks k false

-- whether a transition of an own signal takes from the place by the arc
abbrev pub takes_by_arc : NetLists → List ℕ → ℕ → NetArc → Bool
takes_by_arc n own p a = own_takes n own a && (a.place == p)

-- whether the arc is of the signal, and its place is marked
abbrev pub shows_at : NetLists → List Bool → ℕ → NetArc → Bool
shows_at n places s a = mark_at places a.place && (signal_of n a == s)

-- the new marks are the old ones and what passes
abbrev pub AreMarkedFurther : (ℕ → Bool) → List Bool → List Bool → Type 0
AreMarkedFurther test old new = (k : ℕ) → mark_at new k ≡ (mark_at old k || test k)

-- what an arc shows is marked, and nothing else
abbrev pub AreMarks : (ℕ → NetArc → Bool) → List NetArc → List Bool → Type 0
AreMarks shows arcs marks = (k : ℕ) → mark_at marks k ≡ list_any (shows k) arcs
