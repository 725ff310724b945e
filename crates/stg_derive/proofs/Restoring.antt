-- The signals that are given back: they were hidden, and each leaves one fewer.
use Rattle.std.proofs.Common.{◌≡◌, ◌==◌, ◌||◌, ℕ, ◌<◌, Bool, true, false, not, List, [], ◌∷◌, ◌++◌, length, All, is_some, refl, sym, ap, ◌∙◌, subst, inl, inr, eq-eqb}
use Rattle.std.proofs.lemmas.Bool.{cases_Bool, false≢true}
use Rattle.stg_net.specs.Component.{is_one_of}
use Rattle.stg_net.specs.Graph.{Graph, IsTrans, IsDummy, full_name_at, has_signal_of}
use Rattle.stg_net.specs.Initial.{initial}
use Rattle.stg_net.specs.Net.{NetLists, IsNet, trans_at}
use Rattle.stg_net.proofs.Members.{one_of-contained, contained-one_of}
use Rattle.stg_net.proofs.Weights.{full_name_at-graph_of, live_below}
use Rattle.stg_laws.specs.Groups.{names_at}
use Rattle.stg_laws.proofs.KnownSignals.{named_among, passing_contained}
use Rattle.stg_partition.proofs.Numbers.{numbers_pass}
use Rattle.stg_derive.specs.declared.part.Restore.{Restore}
use Rattle.stg_derive.specs.declared.step.Step.{Step}
use Rattle.stg_derive.specs.declared.step.Step.TheVariants.{Contract, DropPlace, DropDummy}
use Rattle.stg_derive.specs.Steps.{stepped}
use Rattle.stg_derive.specs.Attempts.{stepped_all, IsAttempt}
use Rattle.stg_derive.specs.Derivations.{IsLeastDummy, IsRecord, IsStuck, known_with, with_restored, AreGivenBack}
use Rattle.stg_derive.proofs.Counting.{count, count_less}
use Rattle.stg_derive.proofs.StepEffects.{loses_dummy, loses_contracted}
use Rattle.stg_derive.proofs.UnderWay.{step_known}

-- names stay as long as they live
step_named : (g : Graph) (s : Step) (t : ℕ) → IsTrans (stepped g s) t → full_name_at (stepped g s) t ≡ full_name_at g t
step_named g (DropPlace found) t live = refl
step_named g (DropDummy found) t live = let l = loses_dummy g found.trans in l.names t (l.gone t live)
step_named g (Contract u secure places) t live = let l = loses_contracted g u in l.names t (l.gone t live)

-- steps keep the known signals
pub steps_known : (g : Graph) (steps : List Step) → (stepped_all g steps).known ≡ g.known
steps_known g [] = refl
steps_known g (s ∷ steps) = steps_known (stepped g s) steps ∙ step_known g s

-- and the names of what stays live
pub steps_named : (g : Graph) (steps : List Step) (t : ℕ) → IsTrans (stepped_all g steps) t → full_name_at (stepped_all g steps) t ≡ full_name_at g t
steps_named g [] t live = refl
steps_named g (s ∷ steps) t live =
    let here = steps_named (stepped g s) steps t live in
    here ∙ step_named g s t (ap is_some (sym here) ∙ live)

-- a dummy that is left is one of the initial component
pub left_dummy : (g : Graph) (steps : List Step) (t : ℕ) → IsDummy (stepped_all g steps) t → IsDummy g t
left_dummy g steps t d =
    let e = steps_named g steps t d.live in
    record { live = ap is_some (sym e) ∙ d.live; hidden = ap (has_signal_of g.known) (sym e) ∙ ap (λ known. has_signal_of known (full_name_at (stepped_all g steps) t)) (sym (steps_known g steps)) ∙ d.hidden }

-- whether the signal isn't known
abbrev pub is_hidden : List ℕ → ℕ → Bool
is_hidden known s = not (is_one_of known s)

-- how many signals aren't known
abbrev pub many_hidden : NetLists → List ℕ → ℕ
many_hidden n known = count (is_hidden known) (length n.signals)

-- the signal of a dummy isn't known
pub dummy_hidden : (n : NetLists) (known : List ℕ) (t : ℕ) → IsNet n → IsDummy (initial n known) t → (t < length n.trans) × ((trans_at n.trans t).signal < length n.signals) × (is_one_of known (trans_at n.trans t).signal ≡ false)
dummy_hidden n known t net d =
    let below = live_below n t d.live in
    let s = (trans_at n.trans t).signal in (
      below,
      net.trans_signals t (trans_at [] t) below,
      elim (cases_Bool (is_one_of known s)) [
        | inl k ↦ absurd (false≢true (sym d.hidden ∙ ap (has_signal_of (names_at n known)) (full_name_at-graph_of n t below) ∙ named_among n known s (contained-one_of known s k)))
        | inr e ↦ e
      ],
    )

-- known signals stay known
pub with_old : (n : NetLists) (known : List ℕ) (signal k : ℕ) → k < length n.signals → is_one_of known k ≡ true → is_one_of (known_with n known signal) k ≡ true
with_old n known signal k below e =
    one_of-contained (known_with n known signal) k (passing_contained (λ s. is_one_of known s || (s == signal)) (length n.signals) k below (rw e refl))

-- the new signal is known
pub with_new : (n : NetLists) (known : List ℕ) (signal : ℕ) → signal < length n.signals → is_one_of (known_with n known signal) signal ≡ true
with_new n known signal below =
    one_of-contained (known_with n known signal) signal (passing_contained (λ s. is_one_of known s || (s == signal)) (length n.signals) signal below (rw (eq-eqb signal signal refl) (or_true (is_one_of known signal))))
  where
    or_true : (b : Bool) → (b || true) ≡ true
    or_true true = refl
    or_true false = refl

-- known signals with one more are there
pub with_in_range : (n : NetLists) (known : List ℕ) (signal : ℕ) → All (λ s. s < length n.signals) (known_with n known signal)
with_in_range n known signal k d below = (numbers_pass (λ s. is_one_of known s || (s == signal)) (length n.signals) k d below).below

-- one signal fewer is hidden
pub hidden_less : (n : NetLists) (known : List ℕ) (signal : ℕ) → signal < length n.signals → is_one_of known signal ≡ false → many_hidden n (known_with n known signal) < many_hidden n known
hidden_less n known signal below hidden =
    let more = known_with n known signal in
    count_less (is_hidden known) (is_hidden more) (length n.signals) signal
    (λ k l h. elim (cases_Bool (is_one_of known k)) [
      | inl e ↦ absurd (false≢true (sym (ap not (with_old n known signal k l e)) ∙ h))
      | inr e ↦ ap not e
    ])
    below (ap not hidden) (ap not (with_new n known signal below))

-- the known signals after one more record
pub with_restored-last : (n : NetLists) (known : List ℕ) (restored : List Restore) (r : Restore) → with_restored n known (restored ++ r ∷ []) ≡ known_with n (with_restored n known restored) r.signal
with_restored-last n known [] r = refl
with_restored-last n known (x ∷ restored) r = with_restored-last n (known_with n known x.signal) restored r

-- records with one more
pub given_back-last : (n : NetLists) (known : List ℕ) (restored : List Restore) (r : Restore) → AreGivenBack n known restored → IsStuck n (with_restored n known restored) r → AreGivenBack n known (restored ++ r ∷ [])
given_back-last n known [] r a s = (s, tt)
given_back-last n known (x ∷ restored) r a s = (a.0, given_back-last n (known_with n known x.signal) restored r a.1 s)

-- the signal of a record was hidden
pub stuck_hidden : (n : NetLists) (known : List ℕ) (r : Restore) → IsNet n → IsStuck n known r → (r.signal < length n.signals) × (is_one_of known r.signal ≡ false)
stuck_hidden n known r net s =
    let h = dummy_hidden n known r.trans net (left_dummy (initial n known) s.steps r.trans s.recorded.least.dummy) in
    let e = s.recorded.signal_is in
    (subst (λ k. k < length n.signals) (sym e) h.1, ap (is_one_of known) e ∙ h.2)

-- a derivation so far: the records of its attempts, and the signals that are known now
pub record IsTrying (n : NetLists) (begun : List ℕ) (restored : List Restore) (known : List ℕ) : Type 0 where
  pub known_is : known ≡ with_restored n begun restored
  pub given_back : AreGivenBack n begun restored
  pub in_range : All (λ s. s < length n.signals) known

-- a derivation begins
pub trying_begins : (n : NetLists) (begun : List ℕ) → All (λ s. s < length n.signals) begun → IsTrying n begun [] begun
trying_begins n begun range = record { known_is = refl; given_back = tt; in_range = range }

-- the attempt is stuck
pub stuck_at : (n : NetLists) (known : List ℕ) (steps : List Step) (g : Graph) (r : Restore) → IsAttempt (initial n known) steps → g ≡ stepped_all (initial n known) steps → IsRecord n g r → IsStuck n known r
stuck_at n known steps g r a e b = record { steps = steps; attempt = a; recorded = subst (λ h. IsRecord n h r) e b }

-- a derivation goes on with one more record
pub trying_goes_on : (n : NetLists) (begun : List ℕ) (restored : List Restore) (known : List ℕ) (r : Restore) → IsTrying n begun restored known → IsStuck n known r → IsTrying n begun (restored ++ r ∷ []) (known_with n known r.signal)
trying_goes_on n begun restored known r t s = record {
  known_is = ap (λ k. known_with n k r.signal) t.known_is ∙ sym (with_restored-last n begun restored r);
  given_back = given_back-last n begun restored r t.given_back (subst (λ k. IsStuck n k r) t.known_is s);
  in_range = with_in_range n known r.signal;
}

-- and then one signal fewer is hidden
pub trying_less : (n : NetLists) (known : List ℕ) (r : Restore) → IsNet n → IsStuck n known r → many_hidden n (known_with n known r.signal) < many_hidden n known
trying_less n known r net s = let h = stuck_hidden n known r net s in hidden_less n known r.signal h.0 h.1

-- the least dummy is a transition of the net
pub dummy_there : (n : NetLists) (known : List ℕ) (steps : List Step) (g : Graph) (t : ℕ) → IsNet n → g ≡ stepped_all (initial n known) steps → IsLeastDummy g t → t < length n.trans
dummy_there n known steps g t net e l = (dummy_hidden n known t net (left_dummy (initial n known) steps t (subst (λ h. IsDummy h t) e l.dummy))).0
