-- Parts that are settled among each other: an internal signal that another part knows becomes an
-- output, and each net is put in order.
use Rattle.std.specs.Prelude.{◌&&◌, ◌==◌, ℕ, Bool, not, List, length, map}
use Rattle.std.specs.List.{list_any, range_with_len}
use Rattle.std.specs.Str.{bytes_eq}
use Rattle.stg_net.specs.declared.signal.Signal.{Signal}
use Rattle.stg_net.specs.Component.{component}
use Rattle.stg_net.specs.Net.{NetLists, signal_at}
use Rattle.stg_net.specs.Ordered.{ordered, numbers_where}
use Rattle.stg_derive.specs.declared.part.Part.{Part}
use Rattle.stg_crew.specs.Parts.{part_at}

-- whether the net has a signal of that name
abbrev pub has_name : List ℕ → NetLists → Bool
has_name name m = list_any (λ (s : Signal). bytes_eq s.name name) m.signals

-- whether the j-th part is another than the i-th and knows the signal of that name
abbrev pub knows_beside : List Part → ℕ → List ℕ → ℕ → Bool
knows_beside parts i name j = not (j == i) && has_name name (part_at parts j).net

-- whether another part than the i-th knows the signal of that name
abbrev pub others_know : List Part → ℕ → List ℕ → Bool
others_know parts i name = list_any (knows_beside parts i name) (range_with_len 0 (length parts))

-- the signals of the i-th part's net that other parts know
abbrev pub shared_in : List Part → ℕ → List ℕ
shared_in parts i =
    let m = (part_at parts i).net in
    numbers_where (λ s. others_know parts i (signal_at m.signals s).name) (length m.signals)

-- the net in order, where the internal ones of these shared signals are outputs
abbrev pub settled : List ℕ → NetLists → NetLists
settled shared m = ordered (component (range_with_len 0 (length m.signals)) shared m)

-- the i-th part with its net settled among the others
abbrev pub settled_part : List Part → ℕ → Part
settled_part parts i =
    record (part_at parts i) { net = settled (shared_in parts i) (part_at parts i).net }

-- all parts, settled
abbrev pub settled_parts : List Part → List Part
settled_parts parts = map (settled_part parts) (range_with_len 0 (length parts))
