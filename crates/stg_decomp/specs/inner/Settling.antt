-- Parts with other nets.
use Rattle.std.specs.Prelude.{List, [], ◌∷◌}
use Rattle.stg_net.specs.Net.{NetLists}
use Rattle.stg_derive.specs.declared.part.Part.{Part}

-- the part with another net
abbrev pub with_net : Part → NetLists → Part
with_net part m = record part { net = m }

-- each part with the net of the same place
abbrev pub parts_with_nets : List Part → List NetLists → List Part
parts_with_nets [] nets = []
parts_with_nets (p ∷ parts) [] = []
parts_with_nets (p ∷ parts) (m ∷ nets) = with_net p m ∷ parts_with_nets parts nets
