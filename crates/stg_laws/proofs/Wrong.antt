-- Wrong decompositions: each breaks one clause of the definition. The clause on the initial markings always holds, since the run without transitions reaches them, and so does that on an input which no component knows, since it is seen in no cut.
use Rattle.std.proofs.Common.{◌≡◌, ◌≤◌, ◌<◌, ℕ, zero, suc, List, [], ◌∷◌, Option, Some, None, refl, codes, arith}
use Rattle.std.proofs.lemmas.Bool.{false≢true}
use Rattle.stg_net.specs.declared.trans.Edge.TheVariants.{Rise}
use Rattle.stg_net.specs.Graph.{Graph, FullName, Place, full_name_at, takes, tokens_at}
use Rattle.stg_net.specs.Run.{Marking, IsEnabled, fired}
use Rattle.stg_laws.specs.Cuts.{Label}
use Rattle.stg_laws.specs.Stgs.{Stg, stg_at, Knows, Drives}
use Rattle.stg_laws.specs.Joint.{Moves, AreRelated, IsJointStep}
use Rattle.stg_laws.specs.Correct.{IsCorrect}

abbrev a : List ℕ
a = codes "a"

abbrev x : List ℕ
x = codes "x"

abbrev rise : List ℕ → Label
rise signal = record { signal = signal; edge = Rise }

abbrev rises : List ℕ → Option FullName
rises signal = Some (record { signal = signal; edge = Rise; index = 0 })

abbrev place : ℕ → List ℕ → List ℕ → Option Place
place tokens taken given = Some (record { tokens = tokens; taken = taken; given = given })

-- one token from which a+ takes, and a place from a+ to x+
abbrev places : List (Option Place)
places = place 1 (1 ∷ 0 ∷ []) (0 ∷ 0 ∷ []) ∷ place 0 (0 ∷ 1 ∷ []) (1 ∷ 0 ∷ []) ∷ []

abbrev graph_with : List (Option Place) → List (Option FullName) → List (List ℕ) → Graph
graph_with places trans known = record { places = places; trans = trans; known = known; first_places = 2 }

abbrev both : List (Option FullName)
both = rises a ∷ rises x ∷ []

-- the input a rises, and then the output x
abbrev spec : Stg
spec = record { graph = graph_with places both (a ∷ x ∷ []); driven = x ∷ []; internals = [] }

abbrev no_transitions : Stg
no_transitions = record { graph = graph_with places (None ∷ None ∷ []) (a ∷ x ∷ []); driven = x ∷ []; internals = [] }

-- an STG of one place and of x alone, with so many tokens and such a weight
abbrev one_place : ℕ → ℕ → Graph
one_place tokens weight = graph_with (place tokens (weight ∷ []) (0 ∷ []) ∷ []) (rises x ∷ []) (x ∷ [])

abbrev only_x : Graph → Stg
only_x g = record { graph = g; driven = x ∷ []; internals = [] }

-- at first, specification and components are related
starts : (s : Graph) (components : List Stg) → AreRelated s components (tokens_at s) (λ i. tokens_at (stg_at components i).graph)
starts s components = record { run = []; runs = tt; marking = λ p. refl; each = λ i h. record { run = []; runs = tt; named = refl; marking = λ p. refl } }

apart : (i j : ℕ) → i < j → i ≡ j → ⊥
apart i j less e = omega arith

-- two components with one output
two_drivers : IsCorrect spec (spec ∷ spec ∷ []) → ⊥
two_drivers c = apart 0 1 (omega arith) (c.wired.disjoint 0 1 x (omega arith) (omega arith) refl refl)

-- an output without a component
no_driver : IsCorrect spec [] → ⊥
no_driver c = omega (arith, (c.wired.all_driven x refl).there)

-- a component that drives an input
drives_an_input : IsCorrect spec (record spec { driven = a ∷ x ∷ [] } ∷ []) → ⊥
drives_an_input c = false≢true (c.wired.only_driven 0 a (omega arith) refl)

abbrev z : List ℕ
z = codes "z"

abbrev knows_more : Stg
knows_more = record spec { graph = graph_with places both (a ∷ x ∷ z ∷ []) }

undriven : (i : ℕ) → Drives (stg_at (knows_more ∷ []) i) z → ⊥
undriven zero d = false≢true d
undriven (suc i) d = false≢true d

-- a component that knows a signal which the specification doesn't have
knows_too_much : IsCorrect spec (knows_more ∷ []) → ⊥
knows_too_much c = false≢true (c.wired.inputs 0 z (omega arith) refl (λ h. undriven h.driver h.drives_it)).known

-- an internal signal that another component knows
shares_inside : IsCorrect spec (record spec { internals = x ∷ [] } ∷ record spec { driven = [] } ∷ []) → ⊥
shares_inside c = apart 0 1 (omega arith) (c.wired.internals 0 1 x (omega arith) (omega arith) refl refl)

-- a+ of the specification at its initial marking
a_first : Moves spec.graph (rise a) (tokens_at spec.graph) (fired spec.graph (tokens_at spec.graph) 0)
a_first = record { trans = 0; labelled = record { name = record { signal = a; edge = Rise; index = 0 }; has = refl; is = refl }; enabled = record { live = refl; covered = covered }; marking = λ p. refl }
  where
    covered : (p : ℕ) → takes spec.graph 0 p ≤ tokens_at spec.graph p
    covered zero = omega arith
    covered (suc zero) = omega arith
    covered (suc (suc p)) = omega arith

nothing_there : (t : ℕ) (name : FullName) → full_name_at no_transitions.graph t ≡ Some name → ⊥
nothing_there zero name e = cc
nothing_there (suc zero) name e = cc
nothing_there (suc (suc t)) name e = cc

-- a component that lost its transitions doesn't follow an input
loses_transitions : IsCorrect spec (no_transitions ∷ []) → ⊥
loses_transitions c =
    let followed = c.inputs_followed (tokens_at spec.graph) (fired spec.graph (tokens_at spec.graph) 0) (λ i. tokens_at (stg_at (no_transitions ∷ []) i).graph) (rise a) (starts spec.graph (no_transitions ∷ [])) a_first
    (record { known = refl; not_driven = λ d. false≢true d }) in
    let step = (followed.where_known 0 (omega arith) refl).step in
    let moves = step.moves 0 (omega arith) refl in
    nothing_there moves.trans moves.labelled.name moves.labelled.has

x_enabled : (tokens weight : ℕ) → weight ≤ tokens → IsEnabled (one_place tokens weight) (tokens_at (one_place tokens weight)) 0
x_enabled tokens weight enough = record { live = refl; covered = covered }
  where
    covered : (p : ℕ) → takes (one_place tokens weight) 0 p ≤ tokens_at (one_place tokens weight) p
    covered zero = enough
    covered (suc p) = omega arith

x_first : (tokens weight : ℕ) → weight ≤ tokens → Moves (one_place tokens weight) (rise x) (tokens_at (one_place tokens weight)) (fired (one_place tokens weight) (tokens_at (one_place tokens weight)) 0)
x_first tokens weight enough =
    record { trans = 0; labelled = record { name = record { signal = x; edge = Rise; index = 0 }; has = refl; is = refl }; enabled = x_enabled tokens weight enough; marking = λ p. refl }

-- without the token x+ can't be fired
stuck : (t : ℕ) (m : Marking) (name : FullName) → full_name_at (one_place 0 1) t ≡ Some name → m 0 ≡ 0 → IsEnabled (one_place 0 1) m t → ⊥
stuck zero m name e none enabled = omega (arith, enabled.covered 0, none)
stuck (suc t) m name e none enabled = cc

-- a component that lost a token doesn't follow an output
loses_a_token : IsCorrect (only_x (one_place 1 1)) (only_x (one_place 0 1) ∷ []) → ⊥
loses_a_token c =
    let s = one_place 1 1 in
    let followed = c.outputs_followed (tokens_at s) (fired s (tokens_at s) 0) (λ i. tokens_at (stg_at (only_x (one_place 0 1) ∷ []) i).graph) (rise x) (starts s (only_x (one_place 0 1) ∷ [])) (x_first 1 1 (omega arith)) refl in
    let moves = followed.step.moves 0 (omega arith) refl in
    stuck moves.trans (tokens_at (one_place 0 1)) moves.labelled.name moves.labelled.has refl moves.enabled

-- a component that lost an arc does an output that the specification doesn't allow
loses_an_arc : IsCorrect (only_x (one_place 0 1)) (only_x (one_place 0 0) ∷ []) → ⊥
loses_an_arc c =
    let s = one_place 0 1 in
    let g = one_place 0 0 in
    let components = only_x g ∷ [] in
    let step : IsJointStep components (rise x) (λ i. tokens_at (stg_at components i).graph) (λ i. fired (stg_at components i).graph (tokens_at (stg_at components i).graph) 0) =
    record { one = 0; there = omega arith; one_knows = refl; moves = moves; stays = stays } in
    let allowed = c.joint_outputs_allowed (tokens_at s) (λ i. tokens_at (stg_at components i).graph) (λ i. fired (stg_at components i).graph (tokens_at (stg_at components i).graph) 0) (rise x) (starts s components) step refl in
    stuck allowed.moves.trans (tokens_at s) allowed.moves.labelled.name allowed.moves.labelled.has refl allowed.moves.enabled
  where
    moves : (i : ℕ) → i < 1 → Knows (stg_at (only_x (one_place 0 0) ∷ []) i) x
        → Moves (stg_at (only_x (one_place 0 0) ∷ []) i).graph (rise x) (tokens_at (stg_at (only_x (one_place 0 0) ∷ []) i).graph) (fired (stg_at (only_x (one_place 0 0) ∷ []) i).graph (tokens_at (stg_at (only_x (one_place 0 0) ∷ []) i).graph) 0)
    moves zero below k = x_first 0 0 (omega arith)
    moves (suc i) below k = absurd (omega (arith, below))

    stays : (i : ℕ) → i < 1 → ¬ Knows (stg_at (only_x (one_place 0 0) ∷ []) i) x → (p : ℕ)
        → fired (stg_at (only_x (one_place 0 0) ∷ []) i).graph (tokens_at (stg_at (only_x (one_place 0 0) ∷ []) i).graph) 0 p ≡ tokens_at (stg_at (only_x (one_place 0 0) ∷ []) i).graph p
    stays zero below unknown p = absurd (unknown refl)
    stays (suc i) below unknown p = absurd (omega (arith, below))

abbrev refuser : Stg
refuser = record { graph = graph_with [] [] (x ∷ []); driven = []; internals = [] }

silent : (t : ℕ) (name : FullName) → full_name_at refuser.graph t ≡ Some name → ⊥
silent t name e = cc

-- a component that knows another's output and never fires it refuses it
refuses_an_output : IsCorrect (only_x (one_place 1 1)) (only_x (one_place 1 1) ∷ refuser ∷ []) → ⊥
refuses_an_output c =
    let s = one_place 1 1 in
    let components = only_x s ∷ refuser ∷ [] in
    let can = c.outputs_not_refused (tokens_at s) (λ i. tokens_at (stg_at components i).graph) (rise x) 0 0 (starts s components) (omega arith) refl (record { name = record { signal = x; edge = Rise; index = 0 }; has = refl; is = refl }) (x_enabled 1 1 (omega arith)) in
    let moves = can.step.moves 1 (omega arith) refl in
    silent moves.trans moves.labelled.name moves.labelled.has
