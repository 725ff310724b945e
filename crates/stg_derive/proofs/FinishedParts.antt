-- What the part of a group's derivation means.
use Rattle.std.proofs.Common.{◌≡◌, ℕ, ◌<◌, true, List, [], ◌∷◌, length, All, refl, ap, ◌∙◌, subst}
use Rattle.stg_net.specs.Component.{is_one_of}
use Rattle.stg_net.specs.Graph.{is_among}
use Rattle.stg_net.specs.Initial.{initial, graph_of}
use Rattle.stg_net.specs.Net.{NetLists, IsNet}
use Rattle.stg_net.proofs.Members.{one_of-contained, contained-one_of}
use Rattle.stg_laws.specs.Closed.{IsClosed}
use Rattle.stg_laws.specs.Deterministic.{HasNoDummy}
use Rattle.stg_laws.specs.Faithful.{IsFaithful}
use Rattle.stg_laws.specs.Groups.{names_at}
use Rattle.stg_laws.specs.Stgs.{stg_of}
use Rattle.stg_edit.specs.Editing.{Editing}
use Rattle.stg_edit.specs.Compacted.{IsNetOf}
use Rattle.stg_laws.specs.PlainGroups.{Group}
use Rattle.stg_laws.proofs.KnownSignals.{among_named, named_among}
use Rattle.stg_derive.specs.declared.part.Restore.{Restore}
use Rattle.stg_derive.specs.declared.part.Part.{Part}
use Rattle.stg_derive.specs.declared.step.Step.{Step}
use Rattle.stg_derive.specs.Attempts.{stepped_all, IsAttempt}
use Rattle.stg_derive.specs.Derivations.{known_with, with_restored, AreGivenBack, last_draft, IsDerivedPart}
use Rattle.stg_derive.proofs.FaithfulDrafts.{closed_more, draft_is_faithful}
use Rattle.stg_derive.proofs.Restoring.{with_old, with_in_range}

-- the signals are there
abbrev pub AreInRange : NetLists → List ℕ → Type 0
AreInRange n known = All (λ s. s < length n.signals) known

-- known signals with the restored ones are there
pub restored_in_range : (n : NetLists) (known : List ℕ) (restored : List Restore) → AreInRange n known → AreInRange n (with_restored n known restored)
restored_in_range n known [] range = range
restored_in_range n known (r ∷ restored) range = restored_in_range n (known_with n known r.signal) restored (with_in_range n known r.signal)

-- known signals stay known
pub restored_old : (n : NetLists) (known : List ℕ) (restored : List Restore) (k : ℕ) → k < length n.signals → is_one_of known k ≡ true → is_one_of (with_restored n known restored) k ≡ true
restored_old n known [] k below e = e
restored_old n known (r ∷ restored) k below e = restored_old n (known_with n known r.signal) restored k below (with_old n known r.signal k below e)

-- a known signal is one of the net
pub in_range_one : (n : NetLists) (known : List ℕ) (k : ℕ) → AreInRange n known → is_one_of known k ≡ true → k < length n.signals
in_range_one n known k range e = let c = contained-one_of known k e in subst (λ j. j < length n.signals) c.2 (range c.0 k c.1)

-- and the names of known signals are known names
pub wider : (n : NetLists) (known : List ℕ) (restored : List Restore) → AreInRange n known → (s : List ℕ) → is_among (names_at n known) s ≡ true → is_among (names_at n (with_restored n known restored)) s ≡ true
wider n known restored range s e =
    let c = among_named n known s e in
    let one = one_of-contained known c.signal c.listed in
    let more = restored_old n known restored c.signal (in_range_one n known c.signal range one) one in
    subst (λ x. is_among (names_at n (with_restored n known restored)) x ≡ true) c.name_is (named_among n (with_restored n known restored) c.signal (contained-one_of (with_restored n known restored) c.signal more))

module _ (n : NetLists) (net : IsNet n) (group : Group) (range : AreInRange n group.known) (closed : IsClosed (graph_of n) (names_at n group.own) (names_at n group.known)) (part : Part) (is : IsDerivedPart n group part) where
  known : List ℕ
  known = with_restored n group.known part.restored

  known_range : AreInRange n known
  unfolding known
  known_range = restored_in_range n group.known part.restored range

  known_closed : (mine : List (List ℕ)) → ((s : List ℕ) → is_among mine s ≡ true → is_among (names_at n group.own) s ≡ true) → IsClosed (graph_of n) mine (names_at n known)
  unfolding known
  known_closed mine less = closed_more (graph_of n) (names_at n group.own) mine (names_at n group.known) (names_at n (with_restored n group.known part.restored)) closed less (wider n group.known part.restored range)

  pub part_is_faithful : IsFaithful (graph_of n) (stg_of part.net)
  unfolding known
  part_is_faithful = draft_is_faithful n net known known_range group.own part.steps is.derivation.attempt.plain part.net is.net_is (known_closed (names_at n group.own) (λ s e. e)) is.derivation.no_dummy

-- what a derivation ends with is faithful
pub finished_is_faithful : (n : NetLists) → IsNet n → (group : Group) → AreInRange n group.known → IsClosed (graph_of n) (names_at n group.own) (names_at n group.known)
    → (known : List ℕ) (restored : List Restore) (steps : List Step) (e : Editing) (own : List ℕ) (m : NetLists) → known ≡ with_restored n group.known restored → AreGivenBack n group.known restored
    → IsAttempt (initial n known) steps → e.now ≡ stepped_all (initial n known) steps → e.signals ≡ n.signals → HasNoDummy e.now → own ≡ group.own → IsNetOf e.signals e.now own m → IsFaithful (graph_of n) (stg_of m)
finished_is_faithful n net group range closed known restored steps e own m known_is given_back attempt draft same none own_is is =
    let lead : e.now ≡ last_draft n group.known restored steps = draft ∙ ap (λ k. stepped_all (initial n k) steps) known_is in
    let part : Part = record { net = m; own = group.own; known = known; restored = restored; steps = steps; wear = record { edits = 0; undone = 0 } } in
    part_is_faithful n net group range closed part (record {
      own_is = refl;
      known_is = known_is;
      derivation = record { given_back = given_back; attempt = subst (λ k. IsAttempt (initial n k) steps) known_is attempt; no_dummy = subst HasNoDummy lead none };
      net_is = subst (λ g. IsNetOf n.signals g group.own m) lead (subst (λ o. IsNetOf n.signals e.now o m) own_is (subst (λ ss. IsNetOf ss e.now own m) same is));
    })
