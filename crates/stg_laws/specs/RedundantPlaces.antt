-- Places that never stop a transition: Berthelot's condition, and three rules that are cases of it.
use Rattle.std.specs.Prelude.{◌≡◌, ◌≢◌, ℕ, ◌+◌, ◌*◌, ◌<◌, ◌≤◌, List, [], ◌∷◌, All, sum_by}
use Rattle.stg_net.specs.Graph.{Graph, IsPlace, tokens_at, takes, gives}

-- the sum of the numbers of some places, each times the value of its place
abbrev pub valued_sum : (ℕ → ℕ) → (ℕ → ℕ) → List ℕ → ℕ
valued_sum value number places = sum_by (λ q. value q * number q) places

-- Berthelot's condition (G. Berthelot, Transformations and Decompositions of Nets, 1987): counted
-- by values, p always holds what some other places hold, and a surplus
pub record IsStructurallyRedundant (g : Graph) (p : ℕ) : Type 0 where
  pub others : List ℕ
  pub apart : All (λ q. q ≢ p) others
  pub value : ℕ → ℕ
  pub counts : 0 < value p
  pub surplus : ℕ
  -- p holds at first what the others hold, and the surplus
  pub held : valued_sum value (tokens_at g) others + surplus ≤ value p * tokens_at g p
  -- no transition takes more from p than from the others and the surplus
  pub taken : (t : ℕ) → value p * takes g t p ≤ valued_sum value (takes g t) others + surplus
  -- what a transition gives to the others beyond what it takes, it gives to p
  pub moved : (t : ℕ) → valued_sum value (gives g t) others + value p * takes g t p
      ≤ valued_sum value (takes g t) others + value p * gives g t p

-- q is another place with the arcs of p and at most its tokens
pub record IsSamePlace (g : Graph) (p q : ℕ) : Type 0 where
  pub live : IsPlace g p
  pub differ : p ≢ q
  pub other_live : IsPlace g q
  pub taken : (t : ℕ) → takes g t p ≡ takes g t q
  pub given : (t : ℕ) → gives g t p ≡ gives g t q
  pub held : tokens_at g q ≤ tokens_at g p

-- each transition gives to p what it takes from it, and p holds as much
pub record IsLoopPlace (g : Graph) (p : ℕ) : Type 0 where
  pub live : IsPlace g p
  pub same : (t : ℕ) → takes g t p ≡ gives g t p
  pub held : (t : ℕ) → takes g t p ≤ tokens_at g p

-- a alone gives to p, and b alone takes from it, both with weight 1
pub record IsLink (g : Graph) (a b p : ℕ) : Type 0 where
  pub given : gives g a p ≡ 1
  pub one_giver : (t : ℕ) → t ≢ a → gives g t p ≡ 0
  pub taken : takes g b p ≡ 1
  pub one_taker : (t : ℕ) → t ≢ b → takes g t p ≡ 0

-- the places lead from a to b: a gives to the first one, what takes from a place gives to the next,
-- and b takes from the last one; without places a is b
abbrev pub IsChain : Graph → ℕ → ℕ → List ℕ → Type 0
IsChain g a b [] = a ≡ b
IsChain g a b (p ∷ chain) = (c : ℕ) × IsLink g a c p × IsChain g c b chain

-- p leads from a transition to another one, and so does a chain
-- of other places with at most its tokens
pub record IsShortcut (g : Graph) (p : ℕ) : Type 0 where
  pub giver : ℕ
  pub taker : ℕ
  pub differ : giver ≢ taker
  pub link : IsLink g giver taker p
  pub chain : List ℕ
  pub leads : IsChain g giver taker chain
  pub apart : All (λ q. q ≢ p) chain
  pub held : sum_by (tokens_at g) chain ≤ tokens_at g p

-- one of the three rules applies to p
pub data IsRedundantPlace (g : Graph) (p : ℕ) : Type 0 where
  same_place : (q : ℕ) → IsSamePlace g p q → IsRedundantPlace g p
  loop_place : IsLoopPlace g p → IsRedundantPlace g p
  shortcut : IsShortcut g p → IsRedundantPlace g p
