-- The groups of two nets: a bus controller, and an output that shares its input place with an input.
use Rattle.std.proofs.Common.{◌≡◌, ℕ, [], ◌∷◌, List, map, refl}
use Rattle.stg_net.specs.declared.signal.Kind.TheVariants.{Input, Output, Internal}
use Rattle.stg_net.specs.declared.trans.Edge.TheVariants.{Rise, Fall}
use Rattle.stg_net.specs.Net.{NetLists}
use Rattle.stg_net.specs.Ordered.{numbers_where}
use Rattle.stg_net.proofs.Examples.{signal, named, into, from}
use Rattle.stg_laws.specs.Groups.{in_conflict, known_to, AreJoined}

-- the signals in conflict with s
abbrev conflicts_of : NetLists → ℕ → List ℕ
conflicts_of n s = numbers_where (in_conflict n s) 5

-- VME bus controller, read cycle; the signals are dsr ldtack lds d dtack
-- its transitions are dsr+ lds+ ldtack+ d+ dtack+ dsr- d- dtack- lds- ldtack-
abbrev pub bus : NetLists
bus = record {
  signals = signal 97 Input ∷ signal 98 Input ∷ signal 99 Output ∷ signal 100 Output ∷ signal 101 Output ∷ [];
  trans = named 0 Rise ∷ named 2 Rise ∷ named 1 Rise ∷ named 3 Rise ∷ named 4 Rise ∷ named 0 Fall ∷ named 3 Fall ∷ named 4 Fall ∷ named 2 Fall ∷ named 1 Fall ∷ [];
  tokens = 0 ∷ 0 ∷ 0 ∷ 0 ∷ 0 ∷ 0 ∷ 0 ∷ 0 ∷ 1 ∷ 0 ∷ 1 ∷ [];
  arcs =
      into 0 0 ∷ from 0 1
      ∷ into 1 1 ∷ from 1 2
      ∷ into 2 2 ∷ from 2 3
      ∷ into 3 3 ∷ from 3 4
      ∷ into 4 4 ∷ from 4 5
      ∷ into 5 5 ∷ from 5 6
      ∷ into 6 6 ∷ from 6 7
      ∷ into 7 6 ∷ from 7 8
      ∷ from 8 0 ∷ into 8 7
      ∷ into 9 8 ∷ from 9 9
      ∷ from 10 1 ∷ into 10 9 ∷ [];
}

-- each output is in conflict with itself alone
bus-conflicts : map (conflicts_of bus) (0 ∷ 1 ∷ 2 ∷ 3 ∷ 4 ∷ []) ≡ [] ∷ [] ∷ (2 ∷ []) ∷ (3 ∷ []) ∷ (4 ∷ []) ∷ []
bus-conflicts = refl

bus-known : map (λ s. known_to bus (s ∷ [])) (2 ∷ 3 ∷ 4 ∷ []) ≡ (0 ∷ 1 ∷ 2 ∷ 3 ∷ []) ∷ (0 ∷ 1 ∷ 3 ∷ []) ∷ (3 ∷ 4 ∷ []) ∷ []
bus-known = refl

-- s b+, b+ p, p a+ x+: the input a triggers nothing, and is known to x
abbrev pub shared : NetLists
shared = record {
  signals = signal 97 Input ∷ signal 98 Input ∷ signal 120 Output ∷ [];
  trans = named 1 Rise ∷ named 0 Rise ∷ named 2 Rise ∷ [];
  tokens = 1 ∷ 0 ∷ [];
  arcs = from 0 0 ∷ into 1 0 ∷ from 1 1 ∷ from 1 2 ∷ [];
}

shared-conflicts : map (conflicts_of shared) (0 ∷ 1 ∷ 2 ∷ []) ≡ [] ∷ [] ∷ (2 ∷ []) ∷ []
shared-conflicts = refl

shared-known : known_to shared (2 ∷ []) ≡ 0 ∷ 1 ∷ 2 ∷ []
shared-known = refl

-- p x+ y+, q y+ z+: the first output is linked with the last one by the second
abbrev pub linked : NetLists
linked = record {
  signals = signal 120 Output ∷ signal 121 Internal ∷ signal 122 Output ∷ [];
  trans = named 0 Rise ∷ named 1 Rise ∷ named 2 Rise ∷ [];
  tokens = 1 ∷ 1 ∷ [];
  arcs = from 0 0 ∷ from 0 1 ∷ from 1 1 ∷ from 1 2 ∷ [];
}

linked-conflicts : map (conflicts_of linked) (0 ∷ 1 ∷ 2 ∷ []) ≡ (0 ∷ 1 ∷ []) ∷ (0 ∷ 1 ∷ 2 ∷ []) ∷ (1 ∷ 2 ∷ []) ∷ []
linked-conflicts = refl

linked-ends : AreJoined linked 0 2
linked-ends = record { path = 1 ∷ 2 ∷ []; leads = (refl, (refl, refl)) }

linked-known : known_to linked (0 ∷ 1 ∷ 2 ∷ []) ≡ 0 ∷ 1 ∷ 2 ∷ []
linked-known = refl
