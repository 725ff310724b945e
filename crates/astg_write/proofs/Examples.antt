-- The text of a component, computed on small nets.
use Rattle.std.proofs.Common.{◌≡◌, ℕ, true, false, List, [], ◌∷◌, ◌++◌, refl}
use Rattle.std.specs.Prelude.{codes}
use Rattle.std.specs.Fmt.{digits}
use Rattle.stg_net.specs.declared.signal.Kind.{Kind}
use Rattle.stg_net.specs.declared.signal.Kind.TheVariants.{Input, Output, Internal}
use Rattle.stg_net.specs.declared.signal.Signal.{Signal}
use Rattle.stg_net.specs.declared.trans.Edge.{Edge}
use Rattle.stg_net.specs.declared.trans.Edge.TheVariants.{Rise, Fall, Toggle}
use Rattle.stg_net.specs.declared.trans.TransName.{TransName}
use Rattle.stg_net.specs.declared.arc.NetArc.{NetArc}
use Rattle.stg_net.specs.Net.{NetLists}
use Rattle.stg_net.specs.Ordered.{ordered}
use Rattle.astg_write.specs.PlaceNames.{place_prefix}
use Rattle.astg_write.specs.ComponentText.{component_text}

abbrev signal : Kind → List ℕ → Signal
signal kind name = record { name = name; kind = kind }

abbrev trans : ℕ → Edge → ℕ → TransName
trans s edge index = record { signal = s; edge = edge; index = index }

abbrev into : ℕ → ℕ → ℕ → NetArc
into p t w = record { place = p; trans = t; into = true; weight = w }

abbrev out_of : ℕ → ℕ → ℕ → NetArc
out_of p t w = record { place = p; trans = t; into = false; weight = w }

-- a C-element
abbrev c_element : NetLists
c_element = record {
  signals = signal Input (codes "a") ∷ signal Input (codes "b") ∷ signal Output (codes "c") ∷ [];
  trans = trans 0 Rise 0 ∷ trans 2 Rise 0 ∷ trans 1 Rise 0 ∷ trans 0 Fall 0 ∷ trans 1 Fall 0 ∷ trans 2 Fall 0 ∷ [];
  tokens = 0 ∷ 0 ∷ 0 ∷ 0 ∷ 0 ∷ 0 ∷ 1 ∷ 1 ∷ [];
  arcs =
      into 0 0 1 ∷ out_of 0 1 1 ∷ into 1 1 1 ∷ out_of 1 3 1 ∷ into 2 1 1 ∷ out_of 2 4 1 ∷ out_of 3 1 1 ∷ into 3 2 1
      ∷ into 4 3 1 ∷ out_of 4 5 1 ∷ into 5 4 1 ∷ out_of 5 5 1 ∷ out_of 6 0 1 ∷ into 6 5 1 ∷ out_of 7 2 1 ∷ into 7 5 1 ∷ [];
}

component_text-c_element : component_text c_element 1 ≡
    codes ".model part1\n.inputs a b\n.outputs c\n.graph\n"
    ++ codes "a+ p1\nc+ p2 p3\nb+ p4\na- p5\nb- p6\nc- p7 p8\n"
    ++ codes "p1 c+\np2 a-\np3 b-\np4 c+\np5 c-\np6 c-\np7 a+\np8 b+\n"
    ++ codes ".marking { p7 p8 }\n.end\n"
unfolding digits component_text
component_text-c_element = refl

-- the first place takes and gives with weights, nothing takes from the second, the third is without arcs
abbrev weighted : NetLists
weighted = record {
  signals = signal Internal (codes "m") ∷ signal Input (codes "pc") ∷ [];
  trans = trans 1 Toggle 0 ∷ trans 0 Rise 12 ∷ [];
  tokens = 2 ∷ 1 ∷ 0 ∷ [];
  arcs = out_of 0 0 10 ∷ into 0 1 3 ∷ out_of 0 1 1 ∷ into 1 0 1 ∷ [];
}

component_text-weighted : component_text weighted 20 ≡
    codes ".model part20\n.inputs pc\n.internal m\n.graph\n"
    ++ codes "pc~ p1_2\nm+/12 p1_1(3)\n"
    ++ codes "p1_1 pc~(10) m+/12\np1_3\n"
    ++ codes ".marking { p1_1=2 p1_2 }\n.end\n"
unfolding digits component_text
component_text-weighted = refl

-- nothing but an output
abbrev lone : NetLists
lone = record { signals = signal Output (codes "x") ∷ []; trans = []; tokens = []; arcs = [] }

component_text-lone : component_text lone 1 ≡ codes ".model part1\n.outputs x\n.graph\n.marking { }\n.end\n"
unfolding digits component_text
component_text-lone = refl

-- with names that use p and p1_ the next prefix is taken
place_prefix-used : place_prefix (signal Input (codes "p1_x") ∷ signal Input (codes "q") ∷ signal Input (codes "p3_") ∷ []) ≡ codes "p2_"
unfolding digits
place_prefix-used = refl

-- its order is that of its text
ordered-c_element : ordered c_element ≡ c_element
ordered-c_element = refl
