-- The laws, each for all graphs or nets.
use Rattle.std.specs.Prelude.{◌≡◌, ◌↔◌, ℕ, ◌<◌, ◌≤◌, List, All, length, IsTrue}
use Rattle.stg_net.specs.Graph.{Graph, IsTrans, IsDummy, full_name_at, has_signal_of, takes}
use Rattle.stg_net.specs.Net.{NetLists, IsNet}
use Rattle.stg_net.specs.Initial.{graph_of}
use Rattle.stg_net.specs.Run.{IsRun, reached}
use Rattle.stg_net.specs.Ordered.{ordered}
use Rattle.stg_net.specs.Contraction.{contracted, without_place, without_trans}
use Rattle.stg_laws.specs.Closed.{IsClosed}
use Rattle.stg_laws.specs.Groups.{known_to, names_at}
use Rattle.stg_laws.specs.PlainGroups.{Group, ArePlainGroups, AreFeasible, AreClosed}
use Rattle.stg_laws.specs.Cuts.{cut, HaveSameNameLists}
use Rattle.stg_laws.specs.Deterministic.{IsClean, HasNoDummy, IsDeterministic}
use Rattle.stg_laws.specs.Conflict.{HasNoAutoConflict}
use Rattle.stg_laws.specs.Consistent.{HasNoToggle, IsConsistent}
use Rattle.stg_laws.specs.Stgs.{Stg, HasDistinctNames, IsStg, stg_of, stg_at, Drives, IsInternal}
use Rattle.stg_laws.specs.Correct.{AreWired, IsCorrect}
use Rattle.stg_laws.specs.Faithful.{IsFaithful}
use Rattle.stg_laws.specs.Renumbered.{IsRenumbered}
use Rattle.stg_laws.specs.Secure.{IsPureOrdinary, IsSecure}
use Rattle.stg_laws.specs.RedundantPlaces.{IsStructurallyRedundant, IsRedundantPlace}
use Rattle.stg_laws.specs.RedundantDummies.{IsRedundantDummy}
use Rattle.stg_laws.specs.LeaveOut.{leave_out, ComesFrom}

-- components that are wired and faithful are a correct
-- decomposition of a deterministic specification
abbrev pub FaithfulPartsAreCorrect : Type 0
FaithfulPartsAreCorrect =
    (spec : Stg) (components : List Stg) → IsDeterministic spec.graph → AreWired spec components
    → ((i : ℕ) → i < length components → IsStg (stg_at components i))
    → ((i : ℕ) → i < length components → IsFaithful spec.graph (stg_at components i))
    → IsCorrect spec components

-- both drive the same signals, and keep the same ones inside
pub record DriveTheSame (x y : Stg) : Type 0 where
  pub driven : (s : List ℕ) → Drives x s ↔ Drives y s
  pub internals : (s : List ℕ) → IsInternal x s ↔ IsInternal y s

-- a net in order is the same graph with other numbers
abbrev pub OrderRenumbers : Type 0
OrderRenumbers = (n : NetLists) → IsNet n → IsRenumbered (graph_of n) (graph_of (ordered n))

-- and drives the same signals
abbrev pub OrderDrivesTheSame : Type 0
OrderDrivesTheSame = (n : NetLists) → IsNet n → DriveTheSame (stg_of n) (stg_of (ordered n))

-- what a place holds from which an own transition of a closed
-- group takes is a function of the run's cut
abbrev pub CutTellsInputs : Type 0
CutTellsInputs =
    (g : Graph) (own signals : List (List ℕ)) (t p : ℕ) (v w : List ℕ) → HasDistinctNames g
    → IsClosed g own signals → IsTrue (has_signal_of own (full_name_at g t)) → 0 < takes g t p
    → IsRun g v → IsRun g w → cut g signals v ≡ cut g signals w → reached g v p ≡ reached g w p

-- what signals of a net have to know closes them
abbrev pub KnownCloses : Type 0
KnownCloses = (n : NetLists) (own : List ℕ) → IsNet n → All (λ s. s < length n.signals) own
    → IsClosed (graph_of n) (names_at n own) (names_at n (known_to n own))

-- a net has one list of plain groups
abbrev pub HasOneGrouping : Type 0
HasOneGrouping =
    (n : NetLists) (groups others : List Group) → ArePlainGroups n groups → ArePlainGroups n others
    → groups ≡ others

-- the plain groups are feasible
abbrev pub PlainGroupsAreFeasible : Type 0
PlainGroupsAreFeasible =
    (n : NetLists) (groups : List Group) → ArePlainGroups n groups → AreFeasible n groups

-- feasible groups are closed
abbrev pub FeasibleGroupsAreClosed : Type 0
FeasibleGroupsAreClosed =
    (n : NetLists) (groups : List Group) → IsNet n → AreFeasible n groups → AreClosed n groups

-- there are at most as many of them as signals
abbrev pub FeasibleGroupsAreFew : Type 0
FeasibleGroupsAreFew =
    (n : NetLists) (groups : List Group) → AreFeasible n groups
    → length groups ≤ length n.signals

-- a graph without dummies, toggles and structural auto-conflicts, in each of whose runs the edges
-- of each signal alternate, is deterministic
abbrev pub ConsistencyDetermines : Type 0
ConsistencyDetermines =
    (g : Graph) → HasNoDummy g → HasNoToggle g → HasNoAutoConflict g → IsConsistent g
    → IsDeterministic g

-- what is left of a run without the contracted transition is a run of the contracted graph
abbrev pub ContractionFollows : Type 0
ContractionFollows = (g : Graph) (t : ℕ) (run : List ℕ) → IsPureOrdinary g t → IsRun g run
    → IsRun (contracted g t) (leave_out t run)

-- a secure contraction adds no run: each run of the contracted
-- graph comes from a run of the graph before
abbrev pub ContractionAddsNoRun : Type 0
ContractionAddsNoRun = (g : Graph) (t : ℕ) (run : List ℕ) → IsTrans g t → IsPureOrdinary g t
    → IsSecure g t → IsRun (contracted g t) run → ComesFrom g t run

-- the secure contraction of a dummy keeps the name lists
abbrev pub ContractionKeepsNames : Type 0
ContractionKeepsNames = (g : Graph) (t : ℕ) → IsDummy g t → IsPureOrdinary g t → IsSecure g t
    → HaveSameNameLists g (contracted g t)

-- a secure contraction that brings no structural auto-conflict keeps a clean graph clean
abbrev pub ContractionKeepsClean : Type 0
ContractionKeepsClean = (g : Graph) (t : ℕ) → IsTrans g t → IsPureOrdinary g t → IsSecure g t
    → HasNoAutoConflict (contracted g t) → IsClean g → IsClean (contracted g t)

-- the deletion of a place that meets Berthelot's condition keeps all runs
abbrev pub StructuralDeletionKeepsRuns : Type 0
StructuralDeletionKeepsRuns = (g : Graph) (p : ℕ) (run : List ℕ) → IsStructurallyRedundant g p
    → IsRun g run ↔ IsRun (without_place g p) run

-- each of the three rules is a case of Berthelot's condition
abbrev pub RulesAreStructural : Type 0
RulesAreStructural = (g : Graph) (p : ℕ) → IsRedundantPlace g p → IsStructurallyRedundant g p

-- the deletion of a redundant place keeps all runs
abbrev pub PlaceDeletionKeepsRuns : Type 0
PlaceDeletionKeepsRuns = (g : Graph) (p : ℕ) (run : List ℕ) → IsRedundantPlace g p
    → IsRun g run ↔ IsRun (without_place g p) run

-- the deletion of a redundant dummy keeps the name lists
abbrev pub DummyDeletionKeepsNames : Type 0
DummyDeletionKeepsNames = (g : Graph) (t : ℕ) → IsRedundantDummy g t
    → HaveSameNameLists g (without_trans g t)

-- the deletion of a transition adds no run
abbrev pub TransDeletionAddsNoRun : Type 0
TransDeletionAddsNoRun = (g : Graph) (t : ℕ) (run : List ℕ) → IsRun (without_trans g t) run
    → IsRun g run

-- the deletion of a redundant place keeps a clean graph clean
abbrev pub PlaceDeletionKeepsClean : Type 0
PlaceDeletionKeepsClean = (g : Graph) (p : ℕ) → IsRedundantPlace g p → IsClean g
    → IsClean (without_place g p)

-- and so does that of any transition
abbrev pub TransDeletionKeepsClean : Type 0
TransDeletionKeepsClean = (g : Graph) (t : ℕ) → IsClean g → IsClean (without_trans g t)
