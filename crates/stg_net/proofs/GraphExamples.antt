-- The definitions of graphs computed on a net with weights: three places, of which the contraction of the third transition makes one of two.
use Rattle.std.proofs.Common.{◌≡◌, ℕ, ◌≤◌, true, false, [], ◌∷◌, Some, None, refl, zero, suc, arith, codes, map}
use Rattle.stg_net.specs.declared.signal.Kind.TheVariants.{Input, Output}
use Rattle.stg_net.specs.declared.trans.Edge.TheVariants.{Rise}
use Rattle.stg_net.specs.Net.{NetLists}
use Rattle.stg_net.specs.Graph.{Graph, place_at, full_name_at, tokens_at, takes}
use Rattle.stg_net.specs.Run.{IsEnabled, reached}
use Rattle.stg_net.specs.Contraction.{contracted, without_place, without_trans, places_before, places_after}
use Rattle.stg_net.specs.Initial.{initial}
use Rattle.stg_net.proofs.Examples.{named, into, from}

-- a+ gives 2 to p, 1 to q and 1 to r, b+ gives to r, h+ goes from p to q, b+ takes 2 from q, x+ takes from r; p has 1 token, q has 2
abbrev weighted : NetLists
weighted = record {
  signals = record { name = codes "a"; kind = Input } ∷ record { name = codes "b"; kind = Input } ∷ record { name = codes "h"; kind = Input } ∷ record { name = codes "x"; kind = Output } ∷ [];
  trans = named 0 Rise ∷ named 1 Rise ∷ named 2 Rise ∷ named 3 Rise ∷ [];
  tokens = 1 ∷ 2 ∷ 0 ∷ [];
  arcs = record { place = 0; trans = 0; into = true; weight = 2 } ∷ from 0 2
      ∷ into 1 0 ∷ record { place = 1; trans = 1; into = false; weight = 2 } ∷ into 1 2
      ∷ into 2 0 ∷ into 2 1 ∷ from 2 3 ∷ [];
}

-- h is hidden
abbrev begun : Graph
begun = initial weighted (0 ∷ 1 ∷ 3 ∷ [])

abbrev after_h : Graph
after_h = contracted begun 2

around_h : places_before begun 2 ≡ 0 ∷ []
around_h = refl

beyond_h : places_after begun 2 ≡ 1 ∷ []
beyond_h = refl

places_gone : map (λ p. place_at after_h p) (0 ∷ 1 ∷ []) ≡ None ∷ None ∷ []
places_gone = refl

h_gone : full_name_at after_h 2 ≡ None
h_gone = refl

-- the new place has the number 3, and its tokens and weights are sums
new_place : place_at after_h 3 ≡ Some (record { tokens = 3; taken = 0 ∷ 2 ∷ 0 ∷ 0 ∷ []; given = 3 ∷ 0 ∷ 0 ∷ 0 ∷ [] })
new_place = refl

kept_place : place_at after_h 2 ≡ Some (record { tokens = 0; taken = 0 ∷ 0 ∷ 0 ∷ 1 ∷ []; given = 1 ∷ 1 ∷ 0 ∷ 0 ∷ [] })
kept_place = refl

nothing_past : place_at after_h 4 ≡ None
nothing_past = refl

-- what a deletion leaves
q_gone : takes (without_place begun 1) 1 1 ≡ 0
q_gone = refl

h_deleted : takes (without_trans begun 2) 2 0 ≡ 0
h_deleted = refl

q_kept : takes (without_trans begun 2) 1 1 ≡ 2
q_kept = refl

-- after a+ the places hold 3, 3 and 1 tokens, and then after b+ 3, 1 and 2
after_a : map (reached begun (0 ∷ [])) (0 ∷ 1 ∷ 2 ∷ []) ≡ 3 ∷ 3 ∷ 1 ∷ []
after_a = refl

after_b : map (reached begun (0 ∷ 1 ∷ [])) (0 ∷ 1 ∷ 2 ∷ []) ≡ 3 ∷ 1 ∷ 2 ∷ []
after_b = refl

-- b+ is enabled at first, and x+ isn't
b_enabled : IsEnabled begun (tokens_at begun) 1
b_enabled = record { live = refl; covered = covered }
  where
    covered : (p : ℕ) → takes begun 1 p ≤ tokens_at begun p
    covered zero = omega arith
    covered (suc zero) = omega arith
    covered (suc (suc zero)) = omega arith
    covered (suc (suc (suc p))) = omega arith

x_not_enabled : IsEnabled begun (tokens_at begun) 3 → ⊥
x_not_enabled e = let few : 1 ≤ 0 = e.covered 2 in absurd (omega arith)

-- where t takes from two places and gives to two, the new places stand by the first and then by the second
abbrev square : Graph
square = initial (record {
  signals = record { name = codes "h"; kind = Input } ∷ [];
  trans = named 0 Rise ∷ [];
  tokens = 1 ∷ 2 ∷ 4 ∷ 8 ∷ [];
  arcs = from 0 0 ∷ from 1 0 ∷ into 2 0 ∷ into 3 0 ∷ [];
}) []

square_tokens : map (tokens_at (contracted square 0)) (0 ∷ 1 ∷ 2 ∷ 3 ∷ 4 ∷ 5 ∷ 6 ∷ 7 ∷ 8 ∷ []) ≡ 0 ∷ 0 ∷ 0 ∷ 0 ∷ 5 ∷ 9 ∷ 6 ∷ 10 ∷ 0 ∷ []
square_tokens = refl
