-- A graph in which one more signal is known.
use Rattle.std.specs.Prelude.{◌||◌, ◌==◌, ℕ, List, map, length}
use Rattle.stg_net.specs.declared.signal.Signal.{Signal}
use Rattle.stg_net.specs.Net.{signal_at}
use Rattle.stg_net.specs.Graph.{Graph, is_among}
use Rattle.stg_net.specs.Ordered.{numbers_where}

-- the numbers of the known signals and of this one, in ascending order
abbrev pub known_and : List Signal → ℕ → List (List ℕ) → List ℕ
known_and signals s known =
    numbers_where (λ k. is_among known (signal_at signals k).name || (k == s)) (length signals)

-- the graph in which this signal is known too; the known ones stand in the order of the signals
abbrev pub with_shown : List Signal → ℕ → Graph → Graph
with_shown signals s g =
    record g { known = map (λ k. (signal_at signals k).name) (known_and signals s g.known) }
