-- Runs one after another, and what ends a run.
use Rattle.std.proofs.Common.{◌≡◌, ℕ, List, [], ◌∷◌, ◌++◌, refl, arith}
use Rattle.stg_net.specs.Graph.{Graph, tokens_at}
use Rattle.stg_net.specs.Run.{Marking, IsEnabled, IsRun, IsRunFrom, fired, reached, reached_from}

-- a run goes on with a run from what it reaches
pub append_runs : (g : Graph) (m : Marking) (v w : List ℕ) → IsRunFrom g m v → IsRunFrom g (reached_from g m v) w → IsRunFrom g m (v ++ w)
append_runs g m [] w a b = b
append_runs g m (t ∷ v) w a b = (a.0, append_runs g (fired g m t) v w a.1 b)

pub reached-append : (g : Graph) (m : Marking) (v w : List ℕ) → reached_from g m (v ++ w) ≡ reached_from g (reached_from g m v) w
reached-append g m [] w = refl
reached-append g m (t ∷ v) w = reached-append g (fired g m t) v w

-- what ends a run is enabled before it
pub last_enabled : (g : Graph) (m : Marking) (w : List ℕ) (u : ℕ) → IsRunFrom g m (w ++ u ∷ []) → IsEnabled g (reached_from g m w) u
last_enabled g m [] u run = run.0
last_enabled g m (t ∷ w) u run = last_enabled g (fired g m t) w u run.1

-- what is enabled after a run ends a run
pub enabled_last : (g : Graph) (w : List ℕ) (u : ℕ) → IsRun g w → IsEnabled g (reached g w) u → IsRun g (w ++ u ∷ [])
enabled_last g w u run e = append_runs g (tokens_at g) w (u ∷ []) run (e, tt)

-- what is enabled at a marking is enabled at an equal one
pub enabled_same : (g : Graph) (m n : Marking) (t : ℕ) → ((p : ℕ) → n p ≡ m p) → IsEnabled g m t → IsEnabled g n t
enabled_same g m n t same e = record { live = e.live; covered = λ p. omega (arith, e.covered p, same p) }
