-- Plain derivations: attempts from the initial component on, each with one more signal known, until
-- one leaves no dummy.
use Rattle.std.specs.Prelude.{◌≡◌, ◌≤◌, ◌||◌, ◌==◌, ℕ, not, List, [], ◌∷◌, ⊤, filter, length}
use Rattle.std.specs.List.{range_with_len}
use Rattle.stg_net.specs.Net.{NetLists, trans_at}
use Rattle.stg_net.specs.Component.{is_one_of}
use Rattle.stg_net.specs.Graph.{Graph, IsDummy}
use Rattle.stg_net.specs.Initial.{initial}
use Rattle.stg_net.specs.Ordered.{numbers_where}
use Rattle.stg_edit.specs.Compacted.{IsNetOf}
use Rattle.stg_laws.specs.Deterministic.{HasNoDummy}
use Rattle.stg_contract.specs.Verdicts.{IsVerdict}
use Rattle.stg_laws.specs.PlainGroups.{Group}
use Rattle.stg_derive.specs.declared.step.Step.{Step}
use Rattle.stg_derive.specs.declared.part.Restore.{Restore}
use Rattle.stg_derive.specs.declared.part.Part.{Part}
use Rattle.stg_derive.specs.Attempts.{stepped_all, IsAttempt}

-- t is the dummy of least number
pub record IsLeastDummy (g : Graph) (t : ℕ) : Type 0 where
  pub dummy : IsDummy g t
  pub least : (u : ℕ) → IsDummy g u → t ≤ u

-- the record is of the least dummy: its signal, and the verdict on it
pub record IsRecord (n : NetLists) (g : Graph) (r : Restore) : Type 0 where
  pub least : IsLeastDummy g r.trans
  pub signal_is : r.signal ≡ (trans_at n.trans r.trans).signal
  pub verdict_is : IsVerdict g r.trans r.verdict

-- the attempt that knows these signals leaves dummies, and the record is of its last draft
pub record IsStuck (n : NetLists) (known : List ℕ) (r : Restore) : Type 0 where
  pub steps : List Step
  pub attempt : IsAttempt (initial n known) steps
  pub recorded : IsRecord n (stepped_all (initial n known) steps) r

-- the known signals with one more, in ascending order
abbrev pub known_with : NetLists → List ℕ → ℕ → List ℕ
known_with n known signal =
    numbers_where (λ s. is_one_of known s || (s == signal)) (length n.signals)

-- the known signals with those that were given back
abbrev pub with_restored : NetLists → List ℕ → List Restore → List ℕ
with_restored n known [] = known
with_restored n known (r ∷ restored) = with_restored n (known_with n known r.signal) restored

-- each record is of the attempt that knows the signals before it
abbrev pub AreGivenBack : NetLists → List ℕ → List Restore → Type 0
AreGivenBack n known [] = ⊤
AreGivenBack n known (r ∷ restored) = IsStuck n known r
    × AreGivenBack n (known_with n known r.signal) restored

-- the signals that aren't known, in ascending order
abbrev pub hidden_signals : NetLists → List ℕ → List ℕ
hidden_signals n known = filter (λ s. not (is_one_of known s)) (range_with_len 0 (length n.signals))

-- the draft to which the last attempt leads
abbrev pub last_draft : NetLists → List ℕ → List Restore → List Step → Graph
last_draft n known restored steps = stepped_all (initial n (with_restored n known restored)) steps

-- the records are those of the attempts that leave dummies, and the steps those of the first
-- attempt that leaves none
pub record IsPlainDerivation (n : NetLists) (known : List ℕ) (restored : List Restore)
    (steps : List Step) : Type 0 where
  pub given_back : AreGivenBack n known restored
  pub attempt : IsAttempt (initial n (with_restored n known restored)) steps
  pub no_dummy : HasNoDummy (last_draft n known restored steps)

-- the part is that of the group's plain derivation, whatever its wear
pub record IsDerivedPart (n : NetLists) (group : Group) (part : Part) : Type 0 where
  pub own_is : part.own ≡ group.own
  pub known_is : part.known ≡ with_restored n group.known part.restored
  pub derivation : IsPlainDerivation n group.known part.restored part.steps
  pub net_is : IsNetOf n.signals (last_draft n group.known part.restored part.steps) group.own
      part.net
