-- What a component keeps of the specification.
use Rattle.std.specs.Prelude.{◌≡◌, ◌↔◌, ℕ, List, Some, map, All}
use Rattle.stg_net.specs.Graph.{Graph, FullName, full_name_at}
use Rattle.stg_net.specs.Net.{NetLists, IsNet}
use Rattle.stg_net.specs.Run.{IsRun, IsEnabled, reached}
use Rattle.stg_net.specs.Initial.{graph_of}
use Rattle.stg_laws.specs.Cuts.{Label, names_of, cut, IsNamedRun, IsCutOfRun, IsTraceOfRun, IsNameList, IsTrace}
use Rattle.stg_laws.specs.Deterministic.{HasNoDummy, IsDeterministic}
use Rattle.stg_laws.specs.Stgs.{Stg, stg_of, Drives}
use Rattle.stg_laws.specs.Correct.{AreWired, IsCorrect}

-- after the run a transition of this name is enabled
pub record CanFire (g : Graph) (run : List ℕ) (name : FullName) : Type 0 where
  pub trans : ℕ
  pub has : full_name_at g trans ≡ Some name
  pub enabled : IsEnabled g (reached g run) trans

-- where a transition of a signal that x drives is enabled in x after the cut of a run of the
-- specification, the one of that full name is enabled in the specification after the run
abbrev pub OwnTransitionsAgree : Graph → Stg → Type 0
OwnTransitionsAgree spec x =
    (run part_run : List ℕ) (t : ℕ) (name : FullName) → IsRun spec run → IsRun x.graph part_run
    → names_of x.graph part_run ≡ cut spec x.graph.known run
    → full_name_at x.graph t ≡ Some name → Drives x name.signal
    → IsEnabled x.graph (reached x.graph part_run) t → CanFire spec run name

-- the component x does what the specification does, as far as its signals show it
pub record IsFaithful (spec : Graph) (x : Stg) : Type 0 where
  -- x has no dummies
  pub no_dummy : HasNoDummy x.graph
  -- the cut of each run of the specification to the signals of x is a run of x
  pub follows : (run : List ℕ) → IsRun spec run → IsNamedRun x.graph (cut spec x.graph.known run)
  -- each run of x is the cut of a run of the specification
  pub comes_from : (run : List ℕ) → IsRun x.graph run
      → IsCutOfRun spec x.graph.known (names_of x.graph run)
  -- so both have the same name lists and the same traces on the signals of x
  pub names : (names : List FullName)
      → IsNameList x.graph names ↔ IsCutOfRun spec x.graph.known names
  pub traces : (labels : List Label)
      → IsTrace x.graph labels ↔ IsTraceOfRun spec x.graph.known labels
  -- x is deterministic where the specification is
  pub deterministic : IsDeterministic spec → IsDeterministic x.graph
  -- x enables nothing of the signals that it drives that the specification doesn't
  pub own_agree : OwnTransitionsAgree spec x

-- The nets share out what the specification drives, and each is faithful to it. Where the
-- specification is deterministic, they are a correct decomposition of it.
pub record AreComponents (spec : NetLists) (nets : List NetLists) : Type 0 where
  pub are_nets : All IsNet nets
  pub wired : AreWired (stg_of spec) (map stg_of nets)
  pub faithful : All (λ n. IsFaithful (graph_of spec) (stg_of n)) nets
  pub correct : IsDeterministic (graph_of spec) → IsCorrect (stg_of spec) (map stg_of nets)
