-- The definitions computed on worked nets: the steps of the bus controller, and a whole derivation of a net with two equal places.
use Rattle.std.proofs.Common.{◌≡◌, ◌≢◌, ℕ, zero, suc, ◌≤◌, List, [], ◌∷◌, Some, sum_by, All, refl, sym, codes, arith}
use Rattle.std.proofs.lemmas.Bool.{false≢true}
use Rattle.std.proofs.lemmas.List.Elements.{All-head}
use Rattle.std.proofs.lemmas.List.Sums.{sum_by-cons}
use Rattle.stg_net.specs.declared.signal.Kind.TheVariants.{Input, Output}
use Rattle.stg_net.specs.declared.trans.Edge.TheVariants.{Rise, Fall}
use Rattle.stg_net.specs.Net.{NetLists}
use Rattle.stg_net.specs.Graph.{Graph, IsDummy, tokens_at, takes, gives}
use Rattle.stg_net.specs.Initial.{initial}
use Rattle.stg_net.proofs.Examples.{named, into, from}
use Rattle.stg_laws.specs.RedundantPlaces.{IsSamePlace, IsShortcut, IsChain, IsRedundantPlace, same_place, loop_place, shortcut}
use Rattle.stg_laws.specs.RedundantDummies.{IsRedundantDummy, loop_dummy, same_dummy}
use Rattle.stg_redundant.specs.declared.found.PlaceRule.TheVariants.{Same, Shortcut}
use Rattle.stg_redundant.specs.Rules.{IsPlaceFound}
use Rattle.stg_redundant.proofs.RuleTests.{redundant_live}
use Rattle.stg_derive.specs.declared.step.Secure.TheVariants.{Type1}
use Rattle.stg_derive.specs.declared.step.Step.{Step}
use Rattle.stg_derive.specs.declared.step.Step.TheVariants.{Contract, DropPlace}
use Rattle.stg_derive.specs.Steps.{IsAtRest, stepped}
use Rattle.stg_derive.specs.Attempts.{stepped_all}
use Rattle.stg_edit.specs.Compacted.{IsNetOf}
use Rattle.stg_derive.specs.Derivations.{known_with, hidden_signals, IsPlainDerivation}

-- the read cycle of a bus controller: dsr+, lds+, ldtack+, d+, dtack+, dsr- and d- follow one another;
-- after d- come dtack- and dsr+ again, and lds-, ldtack- and lds+ again
abbrev bus : NetLists
bus = record {
  signals = record { name = codes "dsr"; kind = Input } ∷ record { name = codes "ldtack"; kind = Input } ∷ record { name = codes "lds"; kind = Output }
      ∷ record { name = codes "d"; kind = Output } ∷ record { name = codes "dtack"; kind = Output } ∷ [];
  trans = named 0 Rise ∷ named 2 Rise ∷ named 1 Rise ∷ named 3 Rise ∷ named 4 Rise
      ∷ named 0 Fall ∷ named 3 Fall ∷ named 4 Fall ∷ named 2 Fall ∷ named 1 Fall ∷ [];
  tokens = 0 ∷ 0 ∷ 0 ∷ 0 ∷ 0 ∷ 0 ∷ 0 ∷ 0 ∷ 1 ∷ 0 ∷ 1 ∷ [];
  arcs =
      into 0 0 ∷ from 0 1
      ∷ into 1 1 ∷ from 1 2
      ∷ into 2 2 ∷ from 2 3
      ∷ into 3 3 ∷ from 3 4
      ∷ into 4 4 ∷ from 4 5
      ∷ into 5 5 ∷ from 5 6
      ∷ into 6 6 ∷ from 6 7
      ∷ into 7 6 ∷ from 7 8
      ∷ from 8 0 ∷ into 8 7
      ∷ into 9 8 ∷ from 9 9
      ∷ from 10 1 ∷ into 10 9 ∷ [];
}

-- the steps by which the part of dtack is derived, where d and dtack are known
abbrev bus_steps : List Step
bus_steps = Contract 0 Type1 1 ∷ Contract 2 Type1 1 ∷ Contract 5 Type1 1 ∷ Contract 8 Type1 1 ∷ Contract 9 Type1 1 ∷ DropPlace (record { place = 15; rule = Shortcut }) ∷ Contract 1 Type1 1 ∷ []

-- and its net: d+, dtack+, d- and dtack- follow one another
abbrev bus_part : NetLists
bus_part = record {
  signals = record { name = codes "d"; kind = Input } ∷ record { name = codes "dtack"; kind = Output } ∷ [];
  trans = named 0 Rise ∷ named 1 Rise ∷ named 0 Fall ∷ named 1 Fall ∷ [];
  tokens = 0 ∷ 0 ∷ 0 ∷ 1 ∷ [];
  arcs = into 0 0 ∷ from 0 1 ∷ into 1 2 ∷ from 1 3 ∷ into 2 1 ∷ from 2 2 ∷ from 3 0 ∷ into 3 3 ∷ [];
}

bus_net : IsNetOf bus.signals (stepped_all (initial bus (3 ∷ 4 ∷ [])) bus_steps) (4 ∷ []) bus_part
bus_net = record { signals = refl; places = refl; trans = refl }

-- a signal that is given back stands among the known ones in its order
given_back : known_with bus (0 ∷ 3 ∷ []) 1 ≡ 0 ∷ 1 ∷ 3 ∷ []
given_back = refl

-- and the others are hidden
still_hidden : hidden_signals bus (0 ∷ 1 ∷ 3 ∷ []) ≡ 2 ∷ 4 ∷ []
still_hidden = refl

-- a+ gives to both places, and x+ takes from both; the first has a token
abbrev twins : NetLists
twins = record {
  signals = record { name = codes "a"; kind = Input } ∷ record { name = codes "x"; kind = Output } ∷ [];
  trans = named 0 Rise ∷ named 1 Rise ∷ [];
  tokens = 1 ∷ 0 ∷ [];
  arcs = into 0 0 ∷ from 0 1 ∷ into 1 0 ∷ from 1 1 ∷ [];
}

abbrev begun : Graph
begun = initial twins (0 ∷ 1 ∷ [])

abbrev dropped : Step
dropped = DropPlace (record { place = 0; rule = Same 1 })

abbrev rested : Graph
rested = stepped begun dropped

same_places : IsSamePlace begun 0 1
same_places = record { live = refl; differ = λ e. absurd (omega (arith, e)); other_live = refl; taken = taken; given = given; held = omega arith }
  where
    taken : (t : ℕ) → takes begun t 0 ≡ takes begun t 1
    taken zero = refl
    taken (suc zero) = refl
    taken (suc (suc t)) = refl

    given : (t : ℕ) → gives begun t 0 ≡ gives begun t 1
    given zero = refl
    given (suc zero) = refl
    given (suc (suc t)) = refl

-- no chain of other places leads anywhere, where one of them is the only way and holds a token, or there is none
no_chain_begun : IsShortcut begun 1 → ⊥
no_chain_begun s = go s.giver s.taker s.chain s.link.given s.link.taken s.differ s.leads s.apart s.held
  where
    go : (a b : ℕ) (chain : List ℕ) → gives begun a 1 ≡ 1 → takes begun b 1 ≡ 1 → a ≢ b → IsChain begun a b chain → All (λ q. q ≢ 1) chain → sum_by (tokens_at begun) chain ≤ 0 → ⊥
    go a b [] f t d l o h = d l
    go zero b (zero ∷ chain) f t d l o h = omega (arith, h, sum_by-cons (tokens_at begun) 0 chain)
    go (suc zero) b (zero ∷ chain) f t d l o h = absurd (omega (arith, f))
    go (suc (suc a)) b (zero ∷ chain) f t d l o h = absurd (omega (arith, f))
    go a b (suc zero ∷ chain) f t d l o h = All-head (λ q. q ≢ 1) 1 chain o refl
    go a b (suc (suc p) ∷ chain) f t d l o h = omega (arith, l.1.given)

last_stays : IsRedundantPlace begun 1 → ⊥
last_stays (same_place zero s) = omega (arith, s.held)
last_stays (same_place (suc zero) s) = s.differ refl
last_stays (same_place (suc (suc q)) s) = false≢true s.other_live
last_stays (loop_place s) = omega (arith, s.same 0)
last_stays (shortcut s) = no_chain_begun s

first_goes : IsPlaceFound begun (Some (record { place = 0; rule = Same 1 }))
first_goes = ((same_places, least), greatest)
  where
    least : (r : ℕ) → IsSamePlace begun 0 r → 1 ≤ r
    least zero s = absurd (s.differ refl)
    least (suc r) s = omega arith

    greatest : (p : ℕ) → IsRedundantPlace begun p → p ≤ 0
    greatest zero r = omega arith
    greatest (suc zero) r = absurd (last_stays r)
    greatest (suc (suc p)) r = absurd (false≢true (redundant_live begun (suc (suc p)) r))

no_chain_rested : IsShortcut rested 1 → ⊥
no_chain_rested s = go s.giver s.taker s.chain s.differ s.leads s.apart
  where
    go : (a b : ℕ) (chain : List ℕ) → a ≢ b → IsChain rested a b chain → All (λ q. q ≢ 1) chain → ⊥
    go a b [] d l o = d l
    go a b (zero ∷ chain) d l o = omega (arith, l.1.given)
    go a b (suc zero ∷ chain) d l o = All-head (λ q. q ≢ 1) 1 chain o refl
    go a b (suc (suc p) ∷ chain) d l o = omega (arith, l.1.given)

all_known : (t : ℕ) → IsDummy rested t → ⊥
all_known zero d = false≢true (sym d.hidden)
all_known (suc zero) d = false≢true (sym d.hidden)
all_known (suc (suc t)) d = false≢true d.live

dummy_of : (t : ℕ) → IsRedundantDummy rested t → IsDummy rested t
dummy_of t (loop_dummy l) = l.dummy
dummy_of t (same_dummy u s) = s.dummy

rests : IsAtRest rested
rests = record { no_redundant_place = no_place; no_redundant_dummy = λ t r. all_known t (dummy_of t r); no_candidate = λ t c. all_known t c.dummy }
  where
    no_place : (p : ℕ) → IsRedundantPlace rested p → ⊥
    no_place zero r = false≢true (redundant_live rested 0 r)
    no_place (suc zero) (same_place zero s) = false≢true s.other_live
    no_place (suc zero) (same_place (suc zero) s) = s.differ refl
    no_place (suc zero) (same_place (suc (suc q)) s) = false≢true s.other_live
    no_place (suc zero) (loop_place s) = omega (arith, s.same 0)
    no_place (suc zero) (shortcut s) = no_chain_rested s
    no_place (suc (suc p)) r = false≢true (redundant_live rested (suc (suc p)) r)

-- the first place goes, and nothing else
twins_derived : IsPlainDerivation twins (0 ∷ 1 ∷ []) [] (dropped ∷ [])
twins_derived = record { given_back = tt; attempt = record { plain = (first_goes, tt); rests = rests }; no_dummy = all_known }
