-- Structural auto-conflicts of one signal, whether it is known or not.
use Rattle.std.specs.Prelude.{◌≡◌, ◌≤◌, ℕ, List, [], ◌∷◌, Option, Some, None}
use Rattle.stg_net.specs.declared.signal.Signal.{Signal}
use Rattle.stg_net.specs.Net.{signal_at}
use Rattle.stg_net.specs.Graph.{Graph}
use Rattle.stg_laws.specs.Conflict.{IsAutoConflict}

-- the graph in which this signal alone is known
abbrev pub with_only : List Signal → ℕ → Graph → Graph
with_only signals s g = record g { known = (signal_at signals s).name ∷ [] }

-- two different known transitions of one label take from a place of this number or a later one
pub record HasConflictFrom (g : Graph) (first : ℕ) : Type 0 where
  pub t : ℕ
  pub u : ℕ
  pub p : ℕ
  pub conflict : IsAutoConflict g t u p
  pub late : first ≤ p

-- what was noted stays; where nothing was, the step is noted exactly where there is a conflict at a
-- place of the number `first` or a later one
abbrev pub IsNoted : Graph → ℕ → ℕ → Option ℕ → Option ℕ → Type 0
IsNoted g first step (Some i) new = new ≡ Some i
IsNoted g first step None (Some i) = (i ≡ step) × HasConflictFrom g first
IsNoted g first step None None = HasConflictFrom g first → ⊥
