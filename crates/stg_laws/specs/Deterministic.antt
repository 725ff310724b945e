-- Clean and deterministic graphs. The form of determinism is this project's own: it forbids any two
-- enabled transitions of one label, whatever markings they lead to.
use Rattle.std.specs.Prelude.{◌≡◌, ◌≢◌, ℕ, List, Some}
use Rattle.stg_net.specs.Graph.{Graph, FullName, full_name_at, IsKnown, IsDummy}
use Rattle.stg_net.specs.Run.{IsRun, IsEnabled, reached}
use Rattle.stg_laws.specs.Cuts.{label_of}

-- t and u are two different known transitions of one label
pub record AreRivals (g : Graph) (t u : ℕ) : Type 0 where
  pub differ : t ≢ u
  pub t_known : IsKnown g t
  pub u_known : IsKnown g u
  pub t_name : FullName
  pub u_name : FullName
  pub t_has : full_name_at g t ≡ Some t_name
  pub u_has : full_name_at g u ≡ Some u_name
  pub same : label_of t_name ≡ label_of u_name

-- after no run are two different known transitions of one label enabled
abbrev pub IsClean : Graph → Type 0
IsClean g =
    (run : List ℕ) (t u : ℕ) → IsRun g run → AreRivals g t u → IsEnabled g (reached g run) t
    → ¬ IsEnabled g (reached g run) u

-- the signal of each live transition is known
abbrev pub HasNoDummy : Graph → Type 0
HasNoDummy g = (t : ℕ) → ¬ IsDummy g t

-- the graph is clean and has no dummies
pub record IsDeterministic (g : Graph) : Type 0 where
  pub clean : IsClean g
  pub no_dummy : HasNoDummy g
