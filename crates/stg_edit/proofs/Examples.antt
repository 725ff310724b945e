-- The definitions of walks and of what a contraction makes, computed on a graph with weights.
use Rattle.std.proofs.Common.{◌≡◌, ℕ, List, [], ◌∷◌, Some, Option, length, map, refl}
use Rattle.stg_net.specs.declared.trans.Edge.TheVariants.{Rise}
use Rattle.stg_net.specs.Graph.{Graph, Place, FullName}
use Rattle.stg_net.specs.Contraction.{contracted, without_place}
use Rattle.stg_net.specs.declared.signal.Signal.{Signal}
use Rattle.stg_net.specs.declared.signal.Kind.{Kind}
use Rattle.stg_net.specs.declared.signal.Kind.TheVariants.{Input, Output, Internal}
use Rattle.stg_edit.specs.Walks.{taken_places, given_places, taking_trans, giving_trans}
use Rattle.stg_edit.specs.Replacing.{new_places, new_arcs}
use Rattle.stg_edit.specs.Counted.{live_places, count_arcs}
use Rattle.stg_edit.specs.Compacted.{live_trans, compacted, known_signals, net_signal}
use Rattle.stg_edit.specs.Shown.{with_shown}

abbrev place : ℕ → List ℕ → List ℕ → Option Place
place tokens taken given = Some (record { tokens = tokens; taken = taken; given = given })

abbrev rise : ℕ → Option FullName
rise c = Some (record { signal = c ∷ []; edge = Rise; index = 0 })

-- the transitions a, b, h, x in this order: a gives 2 to the place 0, h takes from it and gives to the place 1, from which b takes 2
abbrev graph : Graph
graph = record {
  places = place 1 (0 ∷ 0 ∷ 1 ∷ 0 ∷ []) (2 ∷ 0 ∷ 0 ∷ 0 ∷ []) ∷ place 2 (0 ∷ 2 ∷ 0 ∷ 0 ∷ []) (1 ∷ 0 ∷ 1 ∷ 0 ∷ []) ∷ place 0 (0 ∷ 0 ∷ 0 ∷ 1 ∷ []) (1 ∷ 1 ∷ 0 ∷ 0 ∷ []) ∷ [];
  trans = rise 97 ∷ rise 98 ∷ rise 104 ∷ rise 120 ∷ [];
  known = (97 ∷ []) ∷ (98 ∷ []) ∷ (120 ∷ []) ∷ [];
  first_places = 3;
}

-- h is contracted
abbrev after : Graph
after = contracted graph 2

makes_one_place : new_places graph 2 ≡ 1
makes_one_place = refl

makes_two_arcs : new_arcs graph 2 ≡ 2
makes_two_arcs = refl

leaves_two_places : live_places after ≡ 2 ∷ 3 ∷ []
leaves_two_places = refl

next_place : length after.places ≡ 4
next_place = refl

a_gives : given_places after 0 ≡ (2, 1) ∷ (3, 3) ∷ []
a_gives = refl

b_takes : taken_places after 1 ≡ (3, 2) ∷ []
b_takes = refl

takers_of_new : taking_trans after 3 ≡ (1, 2) ∷ []
takers_of_new = refl

givers_of_new : giving_trans after 3 ≡ (0, 3) ∷ []
givers_of_new = refl

arcs_before : count_arcs graph ≡ 8
arcs_before = refl

arcs_after : count_arcs after ≡ 5
arcs_after = refl

arcs_without_a_place : count_arcs (without_place graph 0) ≡ 6
arcs_without_a_place = refl

keeps_three_transitions : live_trans after ≡ 0 ∷ 1 ∷ 3 ∷ []
keeps_three_transitions = refl

packs_places : (compacted after).places ≡ place 0 (0 ∷ 0 ∷ 1 ∷ []) (1 ∷ 1 ∷ 0 ∷ []) ∷ place 3 (0 ∷ 2 ∷ 0 ∷ []) (3 ∷ 0 ∷ 0 ∷ []) ∷ []
packs_places = refl

packs_transitions : (compacted after).trans ≡ rise 97 ∷ rise 98 ∷ rise 120 ∷ []
packs_transitions = refl

-- the signals h, x, b, a of a net, in its own order
abbrev signal : ℕ → Kind → Signal
signal c kind = record { name = c ∷ []; kind = kind }

abbrev signals : List Signal
signals = signal 104 Internal ∷ signal 120 Output ∷ signal 98 Internal ∷ signal 97 Output ∷ []

-- x and b are own, a isn't, h isn't known
makes_signals : map (net_signal signals (1 ∷ 2 ∷ [])) (known_signals signals after) ≡ signal 120 Output ∷ signal 98 Internal ∷ signal 97 Input ∷ []
makes_signals = refl

-- once h is shown, the known signals stand in the net's order
shows_h : (with_shown signals 0 graph).known ≡ (104 ∷ []) ∷ (120 ∷ []) ∷ (98 ∷ []) ∷ (97 ∷ []) ∷ []
shows_h = refl

-- a known one is shown
shows_x : (with_shown signals 1 graph).known ≡ (120 ∷ []) ∷ (98 ∷ []) ∷ (97 ∷ []) ∷ []
shows_x = refl
