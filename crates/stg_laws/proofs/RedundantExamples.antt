-- Redundant places and dummies computed on worked nets, where a rule holds and where it doesn't.
use Rattle.std.proofs.Common.{◌≡◌, ◌≢◌, ℕ, zero, suc, ◌+◌, ◌*◌, ◌≤◌, List, [], ◌∷◌, refl, sym, arith}
use Rattle.std.proofs.lemmas.Bool.{false≢true}
use Rattle.std.proofs.lemmas.List.Elements.{All-nil, All-cons}
use Rattle.stg_net.specs.declared.signal.Kind.TheVariants.{Input, Output}
use Rattle.stg_net.specs.declared.trans.Edge.TheVariants.{Rise, Fall}
use Rattle.stg_net.specs.Graph.{Graph, tokens_at, takes, gives}
use Rattle.stg_net.specs.Initial.{initial}
use Rattle.stg_net.specs.Run.{IsEnabled, IsRun}
use Rattle.stg_net.specs.Contraction.{without_place, without_trans}
use Rattle.stg_net.proofs.Examples.{signal, named, into, from}
use Rattle.stg_laws.specs.RedundantPlaces.{valued_sum, IsStructurallyRedundant, IsSamePlace, IsLoopPlace, IsLink, IsShortcut, IsRedundantPlace, same_place, loop_place, shortcut}
use Rattle.stg_laws.specs.RedundantDummies.{IsLoopDummy, IsSameDummy, IsRedundantDummy, loop_dummy, same_dummy}
use Rattle.stg_laws.proofs.PlaceDeletion.{structural_deletion_keeps_runs}
use Rattle.stg_laws.proofs.PlaceRules.{rules_are_structural}

-- what holds of the first four numbers and of all later ones holds of each
each : (P : ℕ → Type 0) → P 0 → P 1 → P 2 → P 3 → ((k : ℕ) → P (suc (suc (suc (suc k))))) → (t : ℕ)
    → P t
each P a b c d later zero = a
each P a b c d later (suc zero) = b
each P a b c d later (suc (suc zero)) = c
each P a b c d later (suc (suc (suc zero))) = d
each P a b c d later (suc (suc (suc (suc k)))) = later k

-- a place that stops a transition, which can be fired without it, isn't redundant
stops : (g : Graph) (p t : ℕ) → IsRun (without_place g p) (t ∷ [])
    → (IsEnabled g (tokens_at g) t → ⊥) → IsStructurallyRedundant g p → ⊥
stops g p t can stopped s = stopped ((structural_deletion_keeps_runs g p s (t ∷ [])).1 can).0

-- two places from a+ to x+, of which the first holds so many tokens
abbrev equal : ℕ → Graph
equal k = initial (record {
  signals = signal 97 Input ∷ signal 120 Output ∷ [];
  trans = named 0 Rise ∷ named 1 Rise ∷ [];
  tokens = k ∷ 0 ∷ [];
  arcs = into 0 0 ∷ from 0 1 ∷ into 1 0 ∷ from 1 1 ∷ [];
}) (0 ∷ 1 ∷ [])

-- with a token the first one can go
first_is_same : IsSamePlace (equal 1) 0 1
first_is_same = record {
  live = refl;
  differ = λ e. omega (arith, e);
  other_live = refl;
  taken = each (λ t. takes (equal 1) t 0 ≡ takes (equal 1) t 1) refl refl refl refl (λ k. refl);
  given = each (λ t. gives (equal 1) t 0 ≡ gives (equal 1) t 1) refl refl refl refl (λ k. refl);
  held = omega arith;
}

-- and the second one can't
second_is_not_same : IsSamePlace (equal 1) 1 0 → ⊥
second_is_not_same s = let few : 1 ≤ 0 = s.held in omega (arith, few)

-- without a token each of them can go
second_is_same : IsSamePlace (equal 0) 1 0
second_is_same = record {
  live = refl;
  differ = λ e. omega (arith, e);
  other_live = refl;
  taken = each (λ t. takes (equal 0) t 1 ≡ takes (equal 0) t 0) refl refl refl refl (λ k. refl);
  given = each (λ t. gives (equal 0) t 1 ≡ gives (equal 0) t 0) refl refl refl refl (λ k. refl);
  held = omega arith;
}

-- a+, x+, a- and x- follow one another by the places 0, 2, 3, with so many tokens, and 4; the place 1
-- leads from a+ to x-
abbrev chain : ℕ → Graph
chain k = initial (record {
  signals = signal 97 Input ∷ signal 120 Output ∷ [];
  trans = named 0 Rise ∷ named 1 Rise ∷ named 1 Fall ∷ named 0 Fall ∷ [];
  tokens = 0 ∷ 0 ∷ 0 ∷ k ∷ 1 ∷ [];
  arcs = into 0 0 ∷ from 0 1 ∷ into 1 0 ∷ from 1 2 ∷ into 2 1 ∷ from 2 3 ∷ from 3 2 ∷ into 3 3 ∷ from 4 0 ∷ into 4 2 ∷ [];
}) (0 ∷ 1 ∷ [])

link_0 : IsLink (chain 0) 0 1 0
link_0 = record {
  given = refl;
  one_giver = each (λ t. t ≢ 0 → gives (chain 0) t 0 ≡ 0) (λ other. absurd (other refl)) (λ _. refl) (λ _. refl) (λ _. refl) (λ k _. refl);
  taken = refl;
  one_taker = each (λ t. t ≢ 1 → takes (chain 0) t 0 ≡ 0) (λ _. refl) (λ other. absurd (other refl)) (λ _. refl) (λ _. refl) (λ k _. refl);
}

link_1 : IsLink (chain 0) 0 2 1
link_1 = record {
  given = refl;
  one_giver = each (λ t. t ≢ 0 → gives (chain 0) t 1 ≡ 0) (λ other. absurd (other refl)) (λ _. refl) (λ _. refl) (λ _. refl) (λ k _. refl);
  taken = refl;
  one_taker = each (λ t. t ≢ 2 → takes (chain 0) t 1 ≡ 0) (λ _. refl) (λ _. refl) (λ other. absurd (other refl)) (λ _. refl) (λ k _. refl);
}

link_2 : IsLink (chain 0) 1 3 2
link_2 = record {
  given = refl;
  one_giver = each (λ t. t ≢ 1 → gives (chain 0) t 2 ≡ 0) (λ _. refl) (λ other. absurd (other refl)) (λ _. refl) (λ _. refl) (λ k _. refl);
  taken = refl;
  one_taker = each (λ t. t ≢ 3 → takes (chain 0) t 2 ≡ 0) (λ _. refl) (λ _. refl) (λ _. refl) (λ other. absurd (other refl)) (λ k _. refl);
}

link_3 : IsLink (chain 0) 3 2 3
link_3 = record {
  given = refl;
  one_giver = each (λ t. t ≢ 3 → gives (chain 0) t 3 ≡ 0) (λ _. refl) (λ _. refl) (λ _. refl) (λ other. absurd (other refl)) (λ k _. refl);
  taken = refl;
  one_taker = each (λ t. t ≢ 2 → takes (chain 0) t 3 ≡ 0) (λ _. refl) (λ _. refl) (λ other. absurd (other refl)) (λ _. refl) (λ k _. refl);
}

-- the place 1 is a shortcut of the chain of the places 0, 2 and 3
is_shortcut : IsShortcut (chain 0) 1
is_shortcut = record {
  giver = 0;
  taker = 2;
  differ = λ e. omega (arith, e);
  link = link_1;
  chain = 0 ∷ 2 ∷ 3 ∷ [];
  leads = (1, link_0, (3, link_2, (2, link_3, refl)));
  apart =
      All-cons (λ q. q ≢ 1) 0 (2 ∷ 3 ∷ []) (λ e. omega (arith, e))
      (All-cons (λ q. q ≢ 1) 2 (3 ∷ []) (λ e. omega (arith, e))
      (All-cons (λ q. q ≢ 1) 3 [] (λ e. omega (arith, e)) (All-nil (λ q. q ≢ 1))));
  held = omega arith;
}

-- where the chain holds a token, x- waits for the place 1 alone
token_on_chain : IsRedundantPlace (chain 1) 1 → ⊥
token_on_chain redundant =
    stops (chain 1) 1 2 (record { live = refl; covered = covered }, tt) stopped (rules_are_structural (chain 1) 1 redundant)
  where
    covered : (p : ℕ)
        → takes (without_place (chain 1) 1) 2 p ≤ tokens_at (without_place (chain 1) 1) p
    covered zero = omega arith
    covered (suc zero) = omega arith
    covered (suc (suc zero)) = omega arith
    covered (suc (suc (suc zero))) = omega arith
    covered (suc (suc (suc (suc zero)))) = omega arith
    covered (suc (suc (suc (suc (suc p))))) = omega arith

    stopped : IsEnabled (chain 1) (tokens_at (chain 1)) 2 → ⊥
    stopped e = let few : 1 ≤ 0 = e.covered 1 in omega (arith, few)

-- h+ gives to a place what it takes from it; the place holds so many tokens, and these signals are known
abbrev loop : ℕ → List ℕ → Graph
loop k known =
    initial (record { signals = signal 104 Input ∷ []; trans = named 0 Rise ∷ []; tokens = k ∷ []; arcs = from 0 0 ∷ into 0 0 ∷ [] }) known

loop_is_place : IsLoopPlace (loop 1 []) 0
loop_is_place = record {
  live = refl;
  same = each (λ t. takes (loop 1 []) t 0 ≡ gives (loop 1 []) t 0) refl refl refl refl (λ k. refl);
  held = each (λ t. takes (loop 1 []) t 0 ≤ 1) (omega arith) (omega arith) (omega arith) (omega arith) (λ k. omega arith);
}

-- an empty place stops its transition
empty_loop : IsRedundantPlace (loop 0 []) 0 → ⊥
empty_loop redundant =
    stops (loop 0 []) 0 0 (record { live = refl; covered = covered }, tt)
    (λ e. let few : 1 ≤ 0 = e.covered 0 in omega (arith, few))
    (rules_are_structural (loop 0 []) 0 redundant)
  where
    covered : (p : ℕ) → takes (without_place (loop 0 []) 0) 0 p ≤ tokens_at (without_place (loop 0 []) 0) p
    covered zero = omega arith
    covered (suc p) = omega arith

-- the dummy can go, and then the place
loop_is_dummy : IsLoopDummy (loop 0 []) 0
loop_is_dummy = record {
  dummy = record { live = refl; hidden = refl };
  same = each (λ p. takes (loop 0 []) 0 p ≡ gives (loop 0 []) 0 p) refl refl refl refl (λ k. refl);
}

then_place : IsLoopPlace (without_trans (loop 0 []) 0) 0
then_place = record {
  live = refl;
  same = each (λ t. takes (without_trans (loop 0 []) 0) t 0 ≡ gives (without_trans (loop 0 []) 0) t 0) refl refl refl refl (λ k. refl);
  held = each (λ t. takes (without_trans (loop 0 []) 0) t 0 ≤ 0) (omega arith) (omega arith) (omega arith) (omega arith) (λ k. omega arith);
}

-- what is known is no dummy
known_stays : IsRedundantDummy (loop 0 (0 ∷ [])) 0 → ⊥
known_stays (loop_dummy s) = false≢true (sym s.dummy.hidden)
known_stays (same_dummy u s) = false≢true (sym s.dummy.hidden)

-- h+ and k+ go from the first place to the second, and both are hidden
abbrev twins : Graph
twins = initial (record {
  signals = signal 104 Input ∷ signal 107 Input ∷ [];
  trans = named 0 Rise ∷ named 1 Rise ∷ [];
  tokens = 1 ∷ 0 ∷ [];
  arcs = from 0 0 ∷ from 0 1 ∷ into 1 0 ∷ into 1 1 ∷ [];
}) []

twins_are_same : IsSameDummy twins 0 1
twins_are_same = record {
  dummy = record { live = refl; hidden = refl };
  differ = λ e. omega (arith, e);
  other_dummy = record { live = refl; hidden = refl };
  taken = each (λ p. takes twins 0 p ≡ takes twins 1 p) refl refl refl refl (λ k. refl);
  given = each (λ p. gives twins 0 p ≡ gives twins 1 p) refl refl refl refl (λ k. refl);
}

-- a+ gives one token to each of two places and two to a third one, from which x+ takes as much
abbrev together : Graph
together = initial (record {
  signals = signal 97 Input ∷ signal 120 Output ∷ [];
  trans = named 0 Rise ∷ named 1 Rise ∷ [];
  tokens = 0 ∷ 0 ∷ 0 ∷ [];
  arcs = into 0 0 ∷ from 0 1 ∷ into 1 0 ∷ from 1 1 ∷ into 2 0 ∷ into 2 0 ∷ from 2 1 ∷ from 2 1 ∷ [];
}) (0 ∷ 1 ∷ [])

-- what the first two places have
abbrev of_two : (ℕ → ℕ) → ℕ
of_two number = valued_sum (λ q. 1) number (0 ∷ 1 ∷ [])

-- the third place holds what the others hold together
together_is_structural : IsStructurallyRedundant together 2
together_is_structural = record {
  others = 0 ∷ 1 ∷ [];
  apart =
      All-cons (λ q. q ≢ 2) 0 (1 ∷ []) (λ e. omega (arith, e))
      (All-cons (λ q. q ≢ 2) 1 [] (λ e. omega (arith, e)) (All-nil (λ q. q ≢ 2)));
  value = λ q. 1;
  counts = omega arith;
  surplus = 0;
  held = omega arith;
  taken = taken;
  moved = moved;
}
  where
    taken : (t : ℕ) → 1 * takes together t 2 ≤ of_two (takes together t) + 0
    taken zero = omega arith
    taken (suc zero) = omega arith
    taken (suc (suc t)) = omega arith

    moved : (t : ℕ) → of_two (gives together t) + 1 * takes together t 2 ≤ of_two (takes together t) + 1 * gives together t 2
    moved zero = omega arith
    moved (suc zero) = omega arith
    moved (suc (suc t)) = omega arith

-- so Berthelot's condition is wider than the three rules, none of which applies
no_rule_applies : IsRedundantPlace together 2 → ⊥
no_rule_applies (same_place q s) = other q s
  where
    other : (q : ℕ) → IsSamePlace together 2 q → ⊥
    other zero s = let e : 2 ≡ 1 = s.taken 1 in omega (arith, e)
    other (suc zero) s = let e : 2 ≡ 1 = s.taken 1 in omega (arith, e)
    other (suc (suc zero)) s = s.differ refl
    other (suc (suc (suc q))) s = let e : 2 ≡ 0 = s.taken 1 in omega (arith, e)
no_rule_applies (loop_place s) = let e : 0 ≡ 2 = s.same 0 in omega (arith, e)
no_rule_applies (shortcut s) = giver s.giver s.link.given
  where
    giver : (a : ℕ) → gives together a 2 ≡ 1 → ⊥
    giver zero e = let two : 2 ≡ 1 = e in omega (arith, two)
    giver (suc zero) e = let none : 0 ≡ 1 = e in omega (arith, none)
    giver (suc (suc a)) e = let none : 0 ≡ 1 = e in omega (arith, none)
