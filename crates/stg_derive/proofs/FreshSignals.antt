-- How many attempts there are: the signals that are given back were hidden, and differ.
use Rattle.std.proofs.Common.{◌≡◌, ◌≢◌, ℕ, ◌<◌, ◌≤◌, false, List, [], ◌∷◌, length, get_or, All, AllPairs, sym, ap, ◌∙◌, inl, inr, arith}
use Rattle.std.proofs.lemmas.Bool.{cases_Bool, false≢true}
use Rattle.std.proofs.lemmas.List.Elements.{All-nil, All-cons}
use Rattle.std.proofs.lemmas.List.Kept.{AllPairs-cons}
use Rattle.stg_net.specs.Component.{is_one_of}
use Rattle.stg_net.specs.Net.{NetLists, IsNet}
use Rattle.stg_derive.specs.declared.part.Restore.{Restore}
use Rattle.stg_derive.specs.Derivations.{known_with, AreGivenBack}
use Rattle.stg_derive.proofs.Restoring.{many_hidden, stuck_hidden, trying_less, with_old, with_new}

-- the signal of the record is one of the net's that isn't known
pub record IsFresh (n : NetLists) (known : List ℕ) (r : Restore) : Type 0 where
  pub there : r.signal < length n.signals
  pub hidden : is_one_of known r.signal ≡ false

fresh_before : (n : NetLists) (known : List ℕ) (signal : ℕ) (r : Restore) → IsFresh n (known_with n known signal) r → IsFresh n known r
fresh_before n known signal r f = record {
  there = f.there;
  hidden = elim (cases_Bool (is_one_of known r.signal)) [
    | inr e ↦ e
    | inl e ↦ absurd (false≢true (sym f.hidden ∙ with_old n known signal r.signal f.there e))
  ];
}

-- the signals of all records were hidden
pub all_fresh : (n : NetLists) (known : List ℕ) (restored : List Restore) → IsNet n → AreGivenBack n known restored → All (IsFresh n known) restored
all_fresh n known [] net a = All-nil (IsFresh n known)
all_fresh n known (r ∷ restored) net a =
    let h = stuck_hidden n known r net a.0 in
    let rest = all_fresh n (known_with n known r.signal) restored net a.1 in
    All-cons (IsFresh n known) r restored (record { there = h.0; hidden = h.1 }) (λ k d below. fresh_before n known r.signal (get_or restored k d) (rest k d below))

-- the signals of the records differ
pub all_differ : (n : NetLists) (known : List ℕ) (restored : List Restore) → IsNet n → AreGivenBack n known restored → AllPairs (λ (r s : Restore). r.signal ≢ s.signal) restored
all_differ n known [] net a = λ i j d lt below. absurd (omega (arith, below))
all_differ n known (r ∷ restored) net a =
    let h = stuck_hidden n known r net a.0 in
    let rest = all_fresh n (known_with n known r.signal) restored net a.1 in
    AllPairs-cons (λ (x y : Restore). x.signal ≢ y.signal) r restored
    (λ k d below e. let f = rest k d below in absurd (false≢true (sym f.hidden ∙ ap (is_one_of (known_with n known r.signal)) (sym e) ∙ with_new n known r.signal h.0)))
    (all_differ n (known_with n known r.signal) restored net a.1)

-- so there are at most as many records as hidden signals
pub few_restored : (n : NetLists) (known : List ℕ) (restored : List Restore) → IsNet n → AreGivenBack n known restored → length restored ≤ many_hidden n known
few_restored n known [] net a = omega arith
few_restored n known (r ∷ restored) net a = omega (arith, few_restored n (known_with n known r.signal) restored net a.1, trying_less n known r net a.0)
