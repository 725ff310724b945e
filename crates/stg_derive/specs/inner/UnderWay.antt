-- How an attempt stands, and what it keeps so that as few of its steps as needed are undone.
use Rattle.std.specs.Prelude.{◌≡◌, ◌<◌, ◌+◌, ◌-◌, ◌^◌, min, ◌⊎◌, ◌∷◌, [], ℕ, List, Option, Some, None, ⊤, All, length, take, nat_lt, unwrap_or, slice_index_or, if◌then◌else◌}
use Rattle.stg_net.specs.Net.{NetLists, trans_at}
use Rattle.stg_net.specs.Graph.{Graph}
use Rattle.stg_net.specs.Initial.{initial}
use Rattle.stg_conflict.specs.Hidden.{with_only, HasConflictFrom}
use Rattle.stg_contract.specs.Calm.{IsCalm}
use Rattle.stg_redundant.specs.declared.found.DummyRule.{DummyRule}
use Rattle.stg_redundant.specs.declared.found.DummyRule.TheVariants as dummy_rule
use Rattle.stg_derive.specs.declared.attempt.Attempt.{Attempt}
use Rattle.stg_derive.specs.declared.part.Restore.{Restore}
use Rattle.stg_derive.specs.declared.step.Step.{Step}
use Rattle.stg_derive.specs.declared.step.Step.TheVariants.{Contract, DropPlace, DropDummy}
use Rattle.stg_derive.specs.Steps.{stepped}
use Rattle.stg_derive.specs.Attempts.{stepped_all, ArePlainSteps}
use Rattle.stg_derive.specs.Undoing.{AllStay, AreUndone}
use Rattle.stg_derive.specs.Loggable.{IsLoggableDummyRule}
use Rattle.stg_derive.specs.inner.Drafts.{HasFewPlaces}

-- the drafts before each of the steps
abbrev pub drafts_before : Graph → List Step → List Graph
drafts_before g [] = []
drafts_before g (s ∷ steps) = g ∷ drafts_before (stepped g s) steps

-- the number of the first step that doesn't stay where the signal is given back; none where all do
abbrev pub IsFirstUndone : NetLists → ℕ → Graph → List Step → Option ℕ → Type 0
IsFirstUndone n signal g steps None = AllStay n signal g steps
IsFirstUndone n signal g steps (Some i) = (i < length steps) × AllStay n signal g (take i steps)
    × (¬ AllStay n signal g (take (i + 1) steps))

-- what was noted stays; else the number is noted exactly where this is so
abbrev pub IsNotedWhere : Type 0 → ℕ → Option ℕ → Option ℕ → Type 0
IsNotedWhere IsSo i (Some j) new = new ≡ Some j
IsNotedWhere IsSo i None (Some j) = (j ≡ i) × IsSo
IsNotedWhere IsSo i None None = ¬ IsSo

-- the rule compares with a dummy of the signal
abbrev pub ComparesWith : NetLists → ℕ → DummyRule → Type 0
ComparesWith n signal dummy_rule.Loop = ⊥
ComparesWith n signal (dummy_rule.Same u) = (trans_at n.trans u).signal ≡ signal

-- the step doesn't stay where the signal is given back, told by the draft after it, in which the
-- places that it made have at least this number
abbrev pub IsGone : NetLists → ℕ → Graph → ℕ → Step → Type 0
IsGone n signal after first (DropPlace found) = ⊥
IsGone n signal after first (DropDummy found) =
    ((trans_at n.trans found.trans).signal ≡ signal) ⊎ ComparesWith n signal found.rule
IsGone n signal after first (Contract t secure places) = ((trans_at n.trans t).signal ≡ signal)
    ⊎ HasConflictFrom (with_only n.signals signal after) first

-- the transitions of the step have numbers below the count
abbrev pub HasTransBelow : ℕ → Step → Type 0
HasTransBelow count (DropPlace found) = ⊤
HasTransBelow count (DropDummy found) =
    (found.trans < count) × IsLoggableDummyRule count found.rule
HasTransBelow count (Contract t secure places) = t < count

-- what is noted, where only numbers below this one stay
abbrev pub noted_below : ℕ → Option ℕ → Option ℕ
noted_below kept None = None
noted_below kept (Some i) = if nat_lt i kept then Some i else None

-- so many steps of the attempt stay where the signal is given back
abbrev pub kept_steps : Attempt → ℕ → ℕ
kept_steps a signal = unwrap_or (slice_index_or a.first_undone.items signal None)
    (length a.steps.items)

-- an attempt so far: its steps are plain and lead to the draft now, the editor has the drafts
-- before each of them, and for each signal the first step that doesn't stay is noted
pub record IsAttemptSoFar (n : NetLists) (a : Attempt) : Type 0 where
  pub range : All (λ s. s < length n.signals) a.known
  pub plain : ArePlainSteps (initial n a.known) a.steps.items
  pub leads : a.editor.now ≡ stepped_all (initial n a.known) a.steps.items
  pub past : a.editor.past ≡ drafts_before (initial n a.known) a.steps.items
  pub signals : a.editor.signals ≡ n.signals
  pub few : HasFewPlaces a.editor.now
  pub calm : IsCalm a.editor.now
  pub first : a.editor.now.first_places ≡ length n.tokens
  pub noted_long : length a.first_undone.items ≡ length n.signals
  pub noted : (s : ℕ) → s < length n.signals → IsFirstUndone n s (initial n a.known)
      a.steps.items (slice_index_or a.first_undone.items s None)

-- so many steps were undone for these records, where the number stands still at the last one of 64
-- bits
pub record AreUndoneBy (n : NetLists) (known : List ℕ) (restored : List Restore) (undone : ℕ)
    : Type 0 where
  pub number : ℕ
  pub are_undone : AreUndone n known restored number
  pub counted : undone ≡ min number (2 ^ 64 - 1)
