-- The net of a component.
use Rattle.std.specs.Prelude.{ℕ, Bool, ◌==◌, List, map, if◌then◌else◌}
use Rattle.std.specs.List.{list_any, enumerate_from}
use Rattle.stg_net.specs.declared.signal.Kind.{Kind}
use Rattle.stg_net.specs.declared.signal.Kind.TheVariants.{Input, Output, Internal}
use Rattle.stg_net.specs.declared.signal.Signal.{Signal}
use Rattle.stg_net.specs.Net.{NetLists}

-- what an own signal becomes that another component knows: an internal one becomes an output
abbrev pub shared_kind : Kind → Kind
shared_kind Input = Input
shared_kind Output = Output
shared_kind Internal = Output

-- whether the number is one of these
abbrev pub is_one_of : List ℕ → ℕ → Bool
is_one_of numbers k = list_any (λ o. o == k) numbers

-- an own signal keeps its kind, or has that of a shared one; every other one is an input
abbrev pub component_kind : List ℕ → List ℕ → ℕ → Kind → Kind
component_kind own shared k kind =
    if is_one_of own k then (if is_one_of shared k then shared_kind kind else kind) else Input

-- a signal of that number, with the kind that it has in the component
abbrev pub component_signal : List ℕ → List ℕ → ℕ × Signal → Signal
component_signal own shared (k, s) = record s { kind = component_kind own shared k s.kind }

-- the net as the component that owns these signals; other components know those that are shared
abbrev pub component : List ℕ → List ℕ → NetLists → NetLists
component own shared n =
    record n { signals = map (component_signal own shared) (enumerate_from 0 n.signals) }
