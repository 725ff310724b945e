-- Runs: which transitions can be fired, and what that does to a marking.
use Rattle.std.specs.Prelude.{ℕ, ◌+◌, ◌-◌, ◌≤◌, List, [], ◌∷◌, ⊤}
use Rattle.stg_net.specs.Graph.{Graph, IsTrans, takes, gives, tokens_at}

-- a marking gives each place a number
abbrev pub Marking : Type 0
Marking = ℕ → ℕ

-- t is live, and each place holds what t takes from it
pub record IsEnabled (g : Graph) (m : Marking) (t : ℕ) : Type 0 where
  pub live : IsTrans g t
  pub covered : (p : ℕ) → takes g t p ≤ m p

-- the marking after t is fired at m
abbrev pub fired : Graph → Marking → ℕ → Marking
fired g m t p = m p - takes g t p + gives g t p

-- the transitions can be fired from m, one after the other
abbrev pub IsRunFrom : Graph → Marking → List ℕ → Type 0
IsRunFrom g m [] = ⊤
IsRunFrom g m (t ∷ run) = IsEnabled g m t × IsRunFrom g (fired g m t) run

-- the marking after the transitions are fired from m
abbrev pub reached_from : Graph → Marking → List ℕ → Marking
reached_from g m [] = m
reached_from g m (t ∷ run) = reached_from g (fired g m t) run

-- the transitions can be fired from the initial marking, one after the other
abbrev pub IsRun : Graph → List ℕ → Type 0
IsRun g run = IsRunFrom g (tokens_at g) run

-- the marking that the run reaches
abbrev pub reached : Graph → List ℕ → Marking
reached g run = reached_from g (tokens_at g) run
