-- Clashes of small nets, and of one signal in a graph.
use Rattle.std.proofs.Common.{◌≡◌, ℕ, true, false, [], ◌∷◌, List, Some, None, refl, arith}
use Rattle.stg_net.specs.declared.trans.Edge.{Edge}
use Rattle.stg_net.specs.declared.trans.Edge.TheVariants.{Rise, Fall}
use Rattle.stg_net.specs.declared.trans.TransName.{TransName}
use Rattle.stg_net.specs.declared.signal.Kind.TheVariants.{Input, Output}
use Rattle.stg_net.specs.declared.signal.Kind.{Kind}
use Rattle.stg_net.specs.declared.signal.Signal.{Signal}
use Rattle.stg_net.specs.declared.arc.NetArc.{NetArc}
use Rattle.stg_net.specs.Net.{NetLists}
use Rattle.stg_net.specs.Contraction.{contracted}
use Rattle.stg_net.specs.Graph.{Graph}
use Rattle.stg_net.specs.Initial.{initial, graph_of}
use Rattle.stg_net.proofs.Examples.{into, from}
use Rattle.stg_laws.specs.Conflict.{IsAutoConflict}
use Rattle.stg_conflict.specs.inner.Search.{least_clash}
use Rattle.stg_conflict.specs.inner.HiddenSearch.{least_of_signal}
use Rattle.stg_conflict.specs.inner.Notes.{clashes_from}

abbrev named : ℕ → Edge → ℕ → TransName
named s edge index = record { signal = s; edge = edge; index = index }

-- p a+ a+/1
abbrev twice : NetLists
twice = record {
  signals = record { name = 97 ∷ []; kind = Input } ∷ [];
  trans = named 0 Rise 0 ∷ named 0 Rise 1 ∷ [];
  tokens = 0 ∷ [];
  arcs = from 0 0 ∷ from 0 1 ∷ [];
}

twice-clash : least_clash twice.trans twice.arcs ≡ Some (record { t1 = 0; t2 = 1; place = 0 })
twice-clash = refl

twice-conflict : IsAutoConflict (graph_of twice) 0 1 0
twice-conflict = record {
  rivals = record { differ = λ e. absurd (omega arith); t_known = refl; u_known = refl; t_name = record { signal = 97 ∷ []; edge = Rise; index = 0 }; u_name = record { signal = 97 ∷ []; edge = Rise; index = 1 }; t_has = refl; u_has = refl; same = refl };
  t_takes = omega arith;
  u_takes = omega arith;
}

-- the transitions a+ a+/1 a+/2 a-: the place 0 has the last two rises, the place 1 the first and the last, the place 2 the first two
abbrev rises : List TransName
rises = named 0 Rise 0 ∷ named 0 Rise 1 ∷ named 0 Rise 2 ∷ named 0 Fall 0 ∷ []

least-pair : least_clash rises (from 0 1 ∷ from 0 2 ∷ from 1 0 ∷ from 1 2 ∷ from 2 0 ∷ from 2 1 ∷ []) ≡ Some (record { t1 = 0; t2 = 1; place = 2 })
least-pair = refl

least-place : least_clash rises (from 1 0 ∷ from 1 2 ∷ from 2 0 ∷ from 2 2 ∷ []) ≡ Some (record { t1 = 0; t2 = 2; place = 1 })
least-place = refl

-- a transition that gives and one of another label don't clash
no-clash : least_clash rises (from 0 0 ∷ into 0 1 ∷ from 0 3 ∷ from 1 1 ∷ []) ≡ None
no-clash = refl

-- the signals a, h, k and x
abbrev signal : ℕ → Kind → Signal
signal c kind = record { name = c ∷ []; kind = kind }

-- an arc of weight 2 into a place
abbrev twice_into : ℕ → ℕ → NetArc
twice_into p t = record { place = p; trans = t; into = true; weight = 2 }

-- p h+ k+ | k+ q | q h+/1 | h+ w(2) | h+/1 w(2) | w a+ | a+ r | r x+, with the transitions h+, k+, h+/1, a+, x+
abbrev late : NetLists
late = record {
  signals = signal 97 Input ∷ signal 104 Input ∷ signal 107 Input ∷ signal 120 Output ∷ [];
  trans = named 1 Rise 0 ∷ named 2 Rise 0 ∷ named 1 Rise 1 ∷ named 0 Rise 0 ∷ named 3 Rise 0 ∷ [];
  tokens = 1 ∷ 0 ∷ 0 ∷ 0 ∷ [];
  arcs = from 0 0 ∷ from 0 1 ∷ into 1 1 ∷ from 1 2 ∷ twice_into 2 0 ∷ twice_into 2 2 ∷ from 2 3 ∷ into 3 3 ∷ from 3 4 ∷ [];
}

-- a and x are known
abbrev draft : Graph
draft = initial late (0 ∷ 3 ∷ [])

no-hidden-clash : least_of_signal late.signals 1 draft ≡ None
no-hidden-clash = refl

-- once k+ is contracted, h+ and h+/1 take from the new place
hidden-clash : least_of_signal late.signals 1 (contracted draft 1) ≡ Some (record { t1 = 0; t2 = 2; place = 4 })
hidden-clash = refl

no-clash-of-another : least_of_signal late.signals 0 (contracted draft 1) ≡ None
no-clash-of-another = refl

clashes-anew : clashes_from (contracted draft 1) late.signals 4 1 ≡ true
clashes-anew = refl

no-clash-later : clashes_from (contracted draft 1) late.signals 5 1 ≡ false
no-clash-later = refl

-- the signal a has the clashes of its rises, known or not
hidden-least-pair : least_of_signal (signal 97 Input ∷ []) 0 (initial (record { signals = signal 97 Input ∷ []; trans = rises; tokens = 0 ∷ 0 ∷ 0 ∷ []; arcs = from 0 1 ∷ from 0 2 ∷ from 1 0 ∷ from 1 2 ∷ from 1 3 ∷ from 2 0 ∷ from 2 1 ∷ [] }) []) ≡ Some (record { t1 = 0; t2 = 1; place = 2 })
hidden-least-pair = refl
