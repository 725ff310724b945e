-- What stays of an attempt where a signal is given back, and how many of its steps are undone.
use Rattle.std.specs.Prelude.{◌≡◌, ◌≢◌, ◌≤◌, ◌+◌, ◌-◌, ◌^◌, ℕ, List, [], ◌∷◌, ⊤, length, take, min}
use Rattle.stg_net.specs.Net.{NetLists, trans_at}
use Rattle.stg_net.specs.Graph.{Graph}
use Rattle.stg_net.specs.Initial.{initial}
use Rattle.stg_net.specs.Contraction.{contracted}
use Rattle.stg_laws.specs.Conflict.{HasNoAutoConflict}
use Rattle.stg_laws.specs.PlainGroups.{Group}
use Rattle.stg_conflict.specs.Hidden.{with_only}
use Rattle.stg_redundant.specs.declared.found.DummyRule.{DummyRule}
use Rattle.stg_redundant.specs.declared.found.DummyRule.TheVariants as dummy_rule
use Rattle.stg_derive.specs.declared.step.Step.{Step}
use Rattle.stg_derive.specs.declared.step.Step.TheVariants.{Contract, DropPlace, DropDummy}
use Rattle.stg_derive.specs.declared.part.Restore.{Restore}
use Rattle.stg_derive.specs.declared.part.Part.{Part}
use Rattle.stg_derive.specs.Steps.{stepped}
use Rattle.stg_derive.specs.Attempts.{IsAttempt}
use Rattle.stg_derive.specs.Derivations.{known_with}

-- t is of another signal
abbrev pub IsOfAnother : NetLists → ℕ → ℕ → Type 0
IsOfAnother n signal t = (trans_at n.trans t).signal ≢ signal

-- the rule doesn't compare with a dummy of the signal
abbrev pub ComparesWithAnother : NetLists → ℕ → DummyRule → Type 0
ComparesWithAnother n signal dummy_rule.Loop = ⊤
ComparesWithAnother n signal (dummy_rule.Same u) = IsOfAnother n signal u

-- the step of the draft g may stay where the signal is given back: a deleted place always may; a
-- deleted dummy may where neither it nor the one that is the same is of the signal; a contraction
-- may where its dummy isn't of the signal, and no two transitions of the signal with one label
-- take from one place afterwards
abbrev pub MayStay : NetLists → ℕ → Graph → Step → Type 0
MayStay n signal g (DropPlace found) = ⊤
MayStay n signal g (DropDummy found) =
    IsOfAnother n signal found.trans × ComparesWithAnother n signal found.rule
MayStay n signal g (Contract t secure places) =
    IsOfAnother n signal t × HasNoAutoConflict (with_only n.signals signal (contracted g t))

-- so may each of these steps from the draft g on: they stay
abbrev pub AllStay : NetLists → ℕ → Graph → List Step → Type 0
AllStay n signal g [] = ⊤
AllStay n signal g (s ∷ steps) = MayStay n signal g s × AllStay n signal (stepped g s) steps

-- so many of the first steps stay, and no more
pub record IsKeptNumber (n : NetLists) (signal : ℕ) (g : Graph) (steps : List Step) (kept : ℕ)
    : Type 0 where
  pub few : kept ≤ length steps
  pub stay : AllStay n signal g (take kept steps)
  pub most : (more : ℕ) → more ≤ length steps → AllStay n signal g (take more steps) → more ≤ kept

-- the attempt that knows these signals has so many steps from the first one on that doesn't stay
-- where the signal of the record is given back
pub record IsUndoneBy (n : NetLists) (known : List ℕ) (r : Restore) (undone : ℕ) : Type 0 where
  pub steps : List Step
  pub attempt : IsAttempt (initial n known) steps
  pub kept : ℕ
  pub kept_number : IsKeptNumber n r.signal (initial n known) steps kept
  pub number : undone ≡ length steps - kept

-- it is the sum of the undone steps over these records, each of the attempt that knows the signals
-- before it
abbrev pub AreUndone : NetLists → List ℕ → List Restore → ℕ → Type 0
AreUndone n known [] undone = undone ≡ 0
AreUndone n known (r ∷ restored) undone = (first : ℕ) × (rest : ℕ) × IsUndoneBy n known r first
    × AreUndone n (known_with n known r.signal) restored rest × (undone ≡ first + rest)

-- the wear of the part: as many edits as it has steps, and so many were undone, where the number
-- stands still at the last one of 64 bits
pub record IsExactlyWorn (n : NetLists) (group : Group) (part : Part) : Type 0 where
  pub edits : part.wear.edits ≡ length part.steps
  pub number : ℕ
  pub are_undone : AreUndone n group.known part.restored number
  pub undone : part.wear.undone ≡ min number (2 ^ 64 - 1)
