-- Components beside each other: joint markings, joint steps, and what is
-- reached together with the specification.
use Rattle.std.specs.Prelude.{◌≡◌, ℕ, ◌<◌, List, length, Some}
use Rattle.stg_net.specs.Graph.{Graph, FullName, full_name_at}
use Rattle.stg_net.specs.Run.{Marking, IsEnabled, IsRun, fired, reached}
use Rattle.stg_laws.specs.Cuts.{Label, label_of, names_of, cut}
use Rattle.stg_laws.specs.Stgs.{Stg, stg_at, Knows}

-- one marking for each component, by its number; other numbers don't matter
abbrev pub JointMarking : Type 0
JointMarking = ℕ → Marking

-- t has the label
pub record HasLabel (g : Graph) (t : ℕ) (label : Label) : Type 0 where
  pub name : FullName
  pub has : full_name_at g t ≡ Some name
  pub is : label_of name ≡ label

-- a transition of the label leads from m to n
pub record Moves (g : Graph) (label : Label) (m n : Marking) : Type 0 where
  pub trans : ℕ
  pub labelled : HasLabel g trans label
  pub enabled : IsEnabled g m trans
  pub marking : (p : ℕ) → n p ≡ fired g m trans p

-- the names are those of a run that reaches m
pub record Reaches (g : Graph) (names : List FullName) (m : Marking) : Type 0 where
  pub run : List ℕ
  pub runs : IsRun g run
  pub named : names_of g run ≡ names
  pub marking : (p : ℕ) → m p ≡ reached g run p

-- one run of the specification reaches m, and its cut to the signals of each component is a
-- run that reaches the component's marking
pub record AreRelated (spec : Graph) (components : List Stg) (m : Marking)
    (joint : JointMarking) : Type 0 where
  pub run : List ℕ
  pub runs : IsRun spec run
  pub marking : (p : ℕ) → m p ≡ reached spec run p
  pub each : (i : ℕ) → i < length components
      → Reaches (stg_at components i).graph (cut spec (stg_at components i).graph.known run)
      (joint i)

-- some component knows the signal; each that knows it fires a
-- transition of the label, and the others stay
pub record IsJointStep (components : List Stg) (label : Label)
    (old new : JointMarking) : Type 0 where
  pub one : ℕ
  pub there : one < length components
  pub one_knows : Knows (stg_at components one) label.signal
  pub moves : (i : ℕ) → i < length components → Knows (stg_at components i) label.signal
      → Moves (stg_at components i).graph label (old i) (new i)
  pub stays : (i : ℕ) → i < length components → ¬ Knows (stg_at components i) label.signal → (p : ℕ)
      → new i p ≡ old i p

-- a joint step of the label is possible
pub record CanStep (components : List Stg) (label : Label) (joint : JointMarking) : Type 0 where
  pub new : JointMarking
  pub step : IsJointStep components label joint new

-- a joint step of the label leads to a joint marking that is related to m
pub record StepsTo (spec : Graph) (components : List Stg) (label : Label) (joint : JointMarking)
    (m : Marking) : Type 0 where
  pub new : JointMarking
  pub step : IsJointStep components label joint new
  pub related : AreRelated spec components m new

-- the specification fires the label at m, and what it reaches is related to the joint marking
pub record MovesTo (spec : Graph) (components : List Stg) (label : Label) (m : Marking)
    (joint : JointMarking) : Type 0 where
  pub new : Marking
  pub moves : Moves spec label m new
  pub related : AreRelated spec components new joint
