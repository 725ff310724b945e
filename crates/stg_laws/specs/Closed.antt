-- Closed groups of signals: which signals a group has to know.
use Rattle.std.specs.Prelude.{ℕ, ◌<◌, ◌⊎◌, List, IsTrue}
use Rattle.stg_net.specs.Graph.{Graph, IsTrans, full_name_at, has_signal_of, takes, gives}

-- at each place from which a transition of an own signal takes, all
-- arcs belong to transitions of the signals
abbrev pub IsClosed : Graph → List (List ℕ) → List (List ℕ) → Type 0
IsClosed g own signals =
    (t u p : ℕ) → IsTrue (has_signal_of own (full_name_at g t)) → 0 < takes g t p
    → IsTrans g u → (0 < takes g u p) ⊎ (0 < gives g u p)
    → IsTrue (has_signal_of signals (full_name_at g u))
