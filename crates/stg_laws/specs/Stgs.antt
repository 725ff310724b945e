-- Signal transition graphs: graphs with the signals that they drive.
use Rattle.std.specs.Prelude.{◌≡◌, ℕ, Bool, false, true, List, [], map, filter, IsTrue, Some, slice_index_or}
use Rattle.stg_net.specs.declared.signal.Kind.{Kind}
use Rattle.stg_net.specs.declared.signal.Kind.TheVariants.{Input, Output, Internal}
use Rattle.stg_net.specs.declared.signal.Signal.{Signal}
use Rattle.stg_net.specs.Graph.{Graph, FullName, full_name_at, is_among}
use Rattle.stg_net.specs.Net.{NetLists, is_kind}
use Rattle.stg_net.specs.Initial.{graph_of}

-- a graph, the names of the signals that it drives, and of the internal ones among these
pub record Stg : Type 0 where
  pub graph : Graph
  pub driven : List (List ℕ)
  pub internals : List (List ℕ)

-- outputs and internal signals are driven
abbrev pub is_driven : Kind → Bool
is_driven Input = false
is_driven Output = true
is_driven Internal = true

-- the names of the signals whose kind passes the test
abbrev pub names_where : (Kind → Bool) → List Signal → List (List ℕ)
names_where test signals =
    map (λ (s : Signal). s.name) (filter (λ (s : Signal). test s.kind) signals)

-- what a net stands for
abbrev pub stg_of : NetLists → Stg
stg_of n =
    record {
      graph = graph_of n;
      driven = names_where is_driven n.signals;
      internals = names_where (is_kind Internal) n.signals;
    }

-- it knows the signal
abbrev pub Knows : Stg → List ℕ → Type 0
Knows x signal = IsTrue (is_among x.graph.known signal)

-- the signal is one of its outputs or of its internal signals
abbrev pub Drives : Stg → List ℕ → Type 0
Drives x signal = IsTrue (is_among x.driven signal)

-- the signal is one of its internal signals
abbrev pub IsInternal : Stg → List ℕ → Type 0
IsInternal x signal = IsTrue (is_among x.internals signal)

-- it knows the signal and doesn't drive it
pub record IsInput (x : Stg) (signal : List ℕ) : Type 0 where
  pub known : Knows x signal
  pub not_driven : ¬ Drives x signal

-- full names tell the transitions apart
abbrev pub HasDistinctNames : Graph → Type 0
HasDistinctNames g =
    (t u : ℕ) (name : FullName) → full_name_at g t ≡ Some name → full_name_at g u ≡ Some name
    → t ≡ u

-- full names tell its transitions apart, and it knows what it drives
pub record IsStg (x : Stg) : Type 0 where
  pub distinct : HasDistinctNames x.graph
  pub driven_known : (s : List ℕ) → Drives x s → Knows x s

-- an STG without anything, which stands at no number
abbrev pub no_stg : Stg
no_stg =
    record {
      graph = record { places = []; trans = []; known = []; first_places = 0 };
      driven = [];
      internals = [];
    }

-- the component of that number
abbrev pub stg_at : List Stg → ℕ → Stg
stg_at components i = slice_index_or components i no_stg
