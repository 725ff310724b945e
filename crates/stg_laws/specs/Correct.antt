-- Correct decompositions, after W. Vogler and R. Wollowski, Decomposition in Asynchronous
-- Circuit Design (2002). The exact form is this project's own: runs are compared by full names.
-- "Output" means output or internal signal.
use Rattle.std.specs.Prelude.{◌≡◌, ℕ, ◌<◌, List, length}
use Rattle.stg_net.specs.Graph.{tokens_at}
use Rattle.stg_net.specs.Run.{Marking, IsEnabled}
use Rattle.stg_laws.specs.Cuts.{Label}
use Rattle.stg_laws.specs.Stgs.{Stg, stg_at, Knows, Drives, IsInternal, IsInput}
use Rattle.stg_laws.specs.Joint.{JointMarking, HasLabel, Moves, AreRelated, IsJointStep, CanStep, StepsTo, MovesTo}

-- a component that drives the signal
pub record HasDriver (components : List Stg) (signal : List ℕ) : Type 0 where
  pub driver : ℕ
  pub there : driver < length components
  pub drives_it : Drives (stg_at components driver) signal

-- no component knows the signal
abbrev pub IsKnownToNone : List Stg → List ℕ → Type 0
IsKnownToNone components signal =
    (i : ℕ) → i < length components → ¬ Knows (stg_at components i) signal

-- which signals the components know and drive
pub record AreWired (spec : Stg) (components : List Stg) : Type 0 where
  -- no two components drive one signal
  pub disjoint : (i j : ℕ) (s : List ℕ) → i < length components → j < length components
      → Drives (stg_at components i) s → Drives (stg_at components j) s → i ≡ j
  -- what the specification drives, a component drives
  pub all_driven : (s : List ℕ) → Drives spec s → HasDriver components s
  -- what a component drives, the specification drives
  pub only_driven : (i : ℕ) (s : List ℕ) → i < length components → Drives (stg_at components i) s
      → Drives spec s
  -- what a component knows and none drives is an input of the specification
  pub inputs : (i : ℕ) (s : List ℕ) → i < length components → Knows (stg_at components i) s
      → ¬ HasDriver components s → IsInput spec s
  -- an internal signal of a component is known to no other one
  pub internals : (i j : ℕ) (s : List ℕ) → i < length components → j < length components
      → IsInternal (stg_at components i) s → Knows (stg_at components j) s → i ≡ j

-- the components do an input's edge after the specification: those that know it by a
-- joint step; where none knows it, all stay
pub record IsFollowed (spec : Stg) (components : List Stg) (label : Label) (joint : JointMarking)
    (m : Marking) : Type 0 where
  pub where_known : (i : ℕ) → i < length components → Knows (stg_at components i) label.signal
      → StepsTo spec.graph components label joint m
  pub where_unknown : IsKnownToNone components label.signal
      → AreRelated spec.graph components m joint

-- the components are a correct decomposition of the specification
pub record IsCorrect (spec : Stg) (components : List Stg) : Type 0 where
  pub wired : AreWired spec components
  -- the initial markings are related
  pub starts : AreRelated spec.graph components (tokens_at spec.graph)
      (λ i. tokens_at (stg_at components i).graph)
  -- an input's edge of the specification is followed by the components
  pub inputs_followed : (m n : Marking) (joint : JointMarking) (label : Label)
      → AreRelated spec.graph components m joint → Moves spec.graph label m n
      → IsInput spec label.signal → IsFollowed spec components label joint n
  -- an output's edge of the specification is followed by a joint step
  pub outputs_followed : (m n : Marking) (joint : JointMarking) (label : Label)
      → AreRelated spec.graph components m joint → Moves spec.graph label m n
      → Drives spec label.signal → StepsTo spec.graph components label joint n
  -- a joint step of an output's edge is allowed by the specification
  pub joint_outputs_allowed : (m : Marking) (joint new : JointMarking) (label : Label)
      → AreRelated spec.graph components m joint → IsJointStep components label joint new
      → Drives spec label.signal → MovesTo spec.graph components label m new
  -- no component refuses another's output: where its driver can fire an edge, a joint step can
  pub outputs_not_refused : (m : Marking) (joint : JointMarking) (label : Label) (i t : ℕ)
      → AreRelated spec.graph components m joint → i < length components
      → Drives (stg_at components i) label.signal
      → HasLabel (stg_at components i).graph t label
      → IsEnabled (stg_at components i).graph (joint i) t → CanStep components label joint
