-- Dummies that do what nothing or another dummy does.
use Rattle.std.specs.Prelude.{◌≡◌, ◌≢◌, ℕ}
use Rattle.stg_net.specs.Graph.{Graph, IsDummy, takes, gives}

-- the dummy t gives to each place what it takes from it
pub record IsLoopDummy (g : Graph) (t : ℕ) : Type 0 where
  pub dummy : IsDummy g t
  pub same : (p : ℕ) → takes g t p ≡ gives g t p

-- u is another dummy with the arcs of the dummy t
pub record IsSameDummy (g : Graph) (t u : ℕ) : Type 0 where
  pub dummy : IsDummy g t
  pub differ : t ≢ u
  pub other_dummy : IsDummy g u
  pub taken : (p : ℕ) → takes g t p ≡ takes g u p
  pub given : (p : ℕ) → gives g t p ≡ gives g u p

-- t is a dummy to which one of the two rules applies
pub data IsRedundantDummy (g : Graph) (t : ℕ) : Type 0 where
  loop_dummy : IsLoopDummy g t → IsRedundantDummy g t
  same_dummy : (u : ℕ) → IsSameDummy g t u → IsRedundantDummy g t
