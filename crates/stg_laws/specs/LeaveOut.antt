-- Runs without the transition that an edit takes away.
use Rattle.std.specs.Prelude.{◌≡◌, ℕ, List, filter, not, ◌==◌}
use Rattle.stg_net.specs.Graph.{Graph}
use Rattle.stg_net.specs.Run.{IsRun}

-- the run without its t's
abbrev pub leave_out : ℕ → List ℕ → List ℕ
leave_out t run = filter (λ u. not (u == t)) run

-- leaving out the t's of some run of g gives the run
pub record ComesFrom (g : Graph) (t : ℕ) (run : List ℕ) : Type 0 where
  pub before : List ℕ
  pub runs : IsRun g before
  pub is_rest : leave_out t before ≡ run
