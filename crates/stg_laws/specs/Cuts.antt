-- What is seen of a run: the full names of its transitions, its cut to some signals, and its trace.
use Rattle.std.specs.Prelude.{◌≡◌, ◌↔◌, ℕ, List, map, filter, filter_map}
use Rattle.stg_net.specs.declared.trans.Edge.{Edge}
use Rattle.stg_net.specs.Graph.{Graph, FullName, full_name_at, is_among}
use Rattle.stg_net.specs.Run.{IsRun}

-- the label of a transition: its signal's name and its edge
pub record Label : Type 0 where
  pub signal : List ℕ
  pub edge : Edge

-- a full name without the index
abbrev pub label_of : FullName → Label
label_of name = record { signal = name.signal; edge = name.edge }

-- the full names of the run's transitions, in order
abbrev pub names_of : Graph → List ℕ → List FullName
names_of g run = filter_map (full_name_at g) run

-- those whose signal is one of the signals
abbrev pub names_among : List (List ℕ) → List FullName → List FullName
names_among signals names = filter (λ (name : FullName). is_among signals name.signal) names

-- the cut of a run to the signals, its projection
abbrev pub cut : Graph → List (List ℕ) → List ℕ → List FullName
cut g signals run = names_among signals (names_of g run)

-- the trace of a run on the signals: its cut without the indices
abbrev pub trace : Graph → List (List ℕ) → List ℕ → List Label
trace g signals run = map label_of (cut g signals run)

-- the names are those of a run
pub record IsNamedRun (g : Graph) (names : List FullName) : Type 0 where
  pub run : List ℕ
  pub runs : IsRun g run
  pub named : names_of g run ≡ names

-- the names are the cut of a run to the signals
pub record IsCutOfRun (g : Graph) (signals : List (List ℕ)) (names : List FullName) : Type 0 where
  pub run : List ℕ
  pub runs : IsRun g run
  pub is_cut : cut g signals run ≡ names

-- the labels are the trace of a run on the signals
pub record IsTraceOfRun (g : Graph) (signals : List (List ℕ)) (labels : List Label) : Type 0 where
  pub run : List ℕ
  pub runs : IsRun g run
  pub is_trace : trace g signals run ≡ labels

-- the names are a name list of the graph: the cut of a run to the known signals
abbrev pub IsNameList : Graph → List FullName → Type 0
IsNameList g names = IsCutOfRun g g.known names

-- the labels are a trace of the graph: that of a run on the known signals
abbrev pub IsTrace : Graph → List Label → Type 0
IsTrace g labels = IsTraceOfRun g g.known labels

-- both graphs have the same name lists
abbrev pub HaveSameNameLists : Graph → Graph → Type 0
HaveSameNameLists g h = (names : List FullName) → IsNameList g names ↔ IsNameList h names
