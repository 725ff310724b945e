-- The definitions at two small nets.
use Rattle.std.proofs.Common.{◌≡◌, ℕ, [], ◌∷◌, true, false, refl}
use Rattle.stg_net.specs.declared.signal.Kind.{Kind}
use Rattle.stg_net.specs.declared.signal.Kind.TheVariants.{Input, Output, Internal}
use Rattle.stg_net.specs.declared.signal.Signal.{Signal}
use Rattle.stg_net.specs.declared.trans.Edge.{Edge}
use Rattle.stg_net.specs.declared.trans.Edge.TheVariants.{Rise, Fall}
use Rattle.stg_net.specs.declared.trans.TransName.{TransName}
use Rattle.stg_net.specs.declared.arc.NetArc.{NetArc}
use Rattle.stg_net.specs.Net.{NetLists}
use Rattle.stg_net.specs.Ordered.{place_order, ordered}
use Rattle.std.specs.Prelude.{codes}
use Rattle.stg_net.specs.declared.spec.PlaceName.TheVariants.{Named, Between}
use Rattle.stg_net.specs.PlaceWords.{place_word}
use Rattle.stg_net.specs.Component.{component}

abbrev pub signal : ℕ → Kind → Signal
signal letter kind = record { name = letter ∷ []; kind = kind }

abbrev pub named : ℕ → Edge → TransName
named s edge = record { signal = s; edge = edge; index = 0 }

abbrev pub into : ℕ → ℕ → NetArc
into p t = record { place = p; trans = t; into = true; weight = 1 }

abbrev pub from : ℕ → ℕ → NetArc
from p t = record { place = p; trans = t; into = false; weight = 1 }

-- a C-element, with its places in the order in which they were met: its transitions are a+ c+ b+ a- b- c-
abbrev pub celem : NetLists
celem = record {
  signals = signal 97 Input ∷ signal 98 Input ∷ signal 99 Output ∷ [];
  trans = named 0 Rise ∷ named 2 Rise ∷ named 1 Rise ∷ named 0 Fall ∷ named 1 Fall ∷ named 2 Fall ∷ [];
  tokens = 0 ∷ 0 ∷ 0 ∷ 0 ∷ 0 ∷ 0 ∷ 1 ∷ 1 ∷ [];
  arcs =
      into 0 0 ∷ from 0 1
      ∷ from 1 1 ∷ into 1 2
      ∷ into 2 1 ∷ from 2 3
      ∷ into 3 1 ∷ from 3 4
      ∷ into 4 3 ∷ from 4 5
      ∷ into 5 4 ∷ from 5 5
      ∷ from 6 0 ∷ into 6 5
      ∷ from 7 2 ∷ into 7 5 ∷ [];
}

-- c+ gives to two places before b+ gives to one
celem-places : place_order celem ≡ 0 ∷ 2 ∷ 3 ∷ 1 ∷ 4 ∷ 5 ∷ 6 ∷ 7 ∷ []
celem-places = refl

celem-ordered : (ordered celem).arcs ≡ into 0 0 ∷ from 0 1 ∷ into 1 1 ∷ from 1 3 ∷ into 2 1 ∷ from 2 4 ∷ from 3 1 ∷ into 3 2 ∷ into 4 3 ∷ from 4 5 ∷ into 5 4 ∷ from 5 5 ∷ from 6 0 ∷ into 6 5 ∷ from 7 2 ∷ into 7 5 ∷ []
celem-ordered = refl

-- an output and an internal signal before the input; a place that no transition gives to; two places with one first giver
abbrev mixed : NetLists
mixed = record {
  signals = signal 120 Output ∷ signal 121 Internal ∷ signal 122 Input ∷ signal 119 Output ∷ [];
  trans = named 0 Rise ∷ named 2 Fall ∷ named 1 Rise ∷ [];
  tokens = 3 ∷ 0 ∷ 1 ∷ 2 ∷ [];
  arcs = from 0 0 ∷ into 1 1 ∷ into 2 0 ∷ from 2 2 ∷ into 3 1 ∷ into 3 2 ∷ [];
}

mixed-ordered : ordered mixed ≡ record {
  signals = signal 122 Input ∷ signal 120 Output ∷ signal 119 Output ∷ signal 121 Internal ∷ [];
  trans = named 1 Rise ∷ named 0 Fall ∷ named 3 Rise ∷ [];
  tokens = 1 ∷ 0 ∷ 2 ∷ 3 ∷ [];
  arcs = into 0 0 ∷ from 0 2 ∷ into 1 1 ∷ into 2 1 ∷ into 2 2 ∷ from 3 0 ∷ [];
}
mixed-ordered = refl

-- the owner of the second signal
mixed-component : (component (1 ∷ []) [] mixed).signals ≡ signal 120 Input ∷ signal 121 Internal ∷ signal 122 Input ∷ signal 119 Input ∷ []
mixed-component = refl

-- where another component knows the own internal signal, it is an output
mixed-shared : (component (1 ∷ []) (1 ∷ 2 ∷ []) mixed).signals ≡ signal 120 Input ∷ signal 121 Output ∷ signal 122 Input ∷ signal 119 Input ∷ []
mixed-shared = refl

-- a place between two transitions and a named one
between_first : place_word (record { net = celem; place_names = Between 5 0 ∷ Named (codes "p") ∷ [] }) 0 ≡ codes "<c-,a+>"
between_first = refl

named_second : place_word (record { net = celem; place_names = Between 5 0 ∷ Named (codes "p") ∷ [] }) 1 ≡ codes "p"
named_second = refl
