-- The steps that stay where a signal is given back are plain steps of the next attempt.
use Rattle.std.proofs.Common.{◌≡◌, ◌==◌, ◌||◌, ℕ, ◌<◌, true, List, [], ◌∷◌, length, All, Option, Some, None, is_some, refl, sym, ap, ◌∙◌, subst, inl, inr}
use Rattle.std.proofs.lemmas.Bool.{or_cases, eqb-true}
use Rattle.stg_net.specs.Component.{is_one_of}
use Rattle.stg_net.specs.Graph.{Graph, FullName, IsTrans, full_name_at, is_among}
use Rattle.stg_net.specs.Initial.{initial, full_name}
use Rattle.stg_net.specs.Net.{NetLists, IsNet, signal_at, trans_at}
use Rattle.stg_net.proofs.Members.{one_of-contained, contained-one_of}
use Rattle.stg_net.proofs.Signals.{one_signal}
use Rattle.stg_net.proofs.Weights.{full_name_at-graph_of, live_below}
use Rattle.stg_laws.specs.Groups.{names_at}
use Rattle.stg_laws.proofs.KnownSignals.{among_named, named_among}
use Rattle.stg_laws.proofs.Names.{live_from}
use Rattle.stg_partition.proofs.Numbers.{numbers_pass}
use Rattle.stg_redundant.specs.declared.found.DummyRule.{DummyRule}
use Rattle.stg_redundant.specs.declared.found.DummyRule.TheVariants as dummy_rule
use Rattle.stg_derive.specs.declared.step.Step.{Step}
use Rattle.stg_derive.specs.declared.step.Step.TheVariants.{Contract, DropPlace, DropDummy}
use Rattle.stg_derive.specs.Steps.{stepped}
use Rattle.stg_derive.specs.Attempts.{ArePlainSteps}
use Rattle.stg_derive.specs.Derivations.{known_with}
use Rattle.stg_derive.specs.Undoing.{IsOfAnother, ComparesWithAnother, MayStay, AllStay}
use Rattle.stg_derive.proofs.OneMoreKnown.{knowing, stepped-knowing, HasOneMore, IsApart, ComparesApart, StaysApart, plain_stays}
use Rattle.stg_derive.proofs.Restoring.{with_old, steps_named}
use Rattle.stg_derive.proofs.UnderWay.{step_known}

-- the names of the known signals with one more
pub one_more_known : (n : NetLists) (known : List ℕ) (signal : ℕ) → All (λ s. s < length n.signals) known → signal < length n.signals
    → HasOneMore (names_at n known) (names_at n (known_with n known signal)) (signal_at n.signals signal).name
one_more_known n known signal range below = record {
  old = λ x e.
      let c = among_named n known x e in
      let there : c.signal < length n.signals = subst (λ k. k < length n.signals) c.listed.2 (range c.listed.0 c.signal c.listed.1) in
      let now = with_old n known signal c.signal there (one_of-contained known c.signal c.listed) in
      subst (λ y. is_among (names_at n more) y ≡ true) c.name_is (named_among n more c.signal (contained-one_of more c.signal now));
  only = λ x e.
      let c = among_named n more x e in
      let pass = (numbers_pass (λ s. is_one_of known s || (s == signal)) (length n.signals) c.listed.0 c.signal c.listed.1).passes in
      let here = subst (λ s. (is_one_of known s || (s == signal)) ≡ true) c.listed.2 pass in
      elim (or_cases (is_one_of known c.signal) (c.signal == signal) here) [
        | inl old ↦ inl (subst (λ y. is_among (names_at n known) y ≡ true) c.name_is (named_among n known c.signal (contained-one_of known c.signal old)))
        | inr new ↦ inr (sym c.name_is ∙ ap (λ s. (signal_at n.signals s).name) (eqb-true c.signal signal new))
      ];
}
  where
    more : List ℕ
    more = known_with n known signal

-- a draft of the net in which these signals are known
pub record IsDraftOf (n : NetLists) (known : List ℕ) (g : Graph) : Type 0 where
  pub knows : g.known ≡ names_at n known
  pub below : (t : ℕ) → IsTrans g t → t < length n.trans
  pub named : (t : ℕ) → IsTrans g t → full_name_at g t ≡ Some (full_name n (trans_at n.trans t))

-- the initial component is one
pub draft_initial : (n : NetLists) (known : List ℕ) → IsDraftOf n known (initial n known)
draft_initial n known = record { knows = refl; below = λ t live. live_below n t live; named = λ t live. full_name_at-graph_of n t (live_below n t live) }

-- and so is each draft after a step
pub draft_stepped : (n : NetLists) (known : List ℕ) (g : Graph) (s : Step) → IsDraftOf n known g → IsDraftOf n known (stepped g s)
draft_stepped n known g s d =
    let same = λ (t : ℕ) (live : IsTrans (stepped g s) t). steps_named g (s ∷ []) t live in
    let before = λ (t : ℕ) (live : IsTrans (stepped g s) t). ap is_some (sym (same t live)) ∙ live in
    record {
      knows = step_known g s ∙ d.knows;
      below = λ t live. d.below t (before t live);
      named = λ t live. same t live ∙ d.named t (before t live);
    }

-- a transition of another signal has another signal's name
apart_of : (n : NetLists) (known : List ℕ) (g : Graph) (signal t : ℕ) → IsNet n → signal < length n.signals → IsDraftOf n known g → IsOfAnother n signal t → IsApart (signal_at n.signals signal).name (full_name_at g t)
apart_of n known g signal t net below d other x e same =
    let live = live_from g t x e in
    let there = d.below t live in
    let mine = (trans_at n.trans t).signal in
    let named : Some x ≡ Some (full_name n (trans_at n.trans t)) = sym e ∙ d.named t live in
    let y : FullName = x in
    let name : x.signal ≡ (signal_at n.signals mine).name = ap (λ o. signal_in y o) named in
    other (one_signal n mine signal net (net.trans_signals t (trans_at [] t) there) below (sym name ∙ same))
  where
    signal_in : FullName → Option FullName → List ℕ
    signal_in y None = y.signal
    signal_in y (Some z) = z.signal

module _ (n : NetLists) (known : List ℕ) (signal : ℕ) (net : IsNet n) (range : All (λ s. s < length n.signals) known) (below : signal < length n.signals) where
  abbrev more : List (List ℕ)
  more = names_at n (known_with n known signal)

  abbrev name : List ℕ
  name = (signal_at n.signals signal).name

  one_more : (g : Graph) → IsDraftOf n known g → HasOneMore g.known more name
  one_more g d = subst (λ k. HasOneMore k more name) (sym d.knows) (one_more_known n known signal range below)

  compares_apart : (g : Graph) (d : IsDraftOf n known g) (rule : DummyRule) → ComparesWithAnother n signal rule → ComparesApart g more name (one_more g d) rule
  compares_apart g d dummy_rule.Loop c = tt
  compares_apart g d (dummy_rule.Same u) c = apart_of n known g signal u net below d c

  stays_apart : (g : Graph) (d : IsDraftOf n known g) (s : Step) → MayStay n signal g s → StaysApart g more name (one_more g d) s
  stays_apart g d (DropPlace found) stays = tt
  stays_apart g d (DropDummy found) stays = (apart_of n known g signal found.trans net below d stays.0, compares_apart g d found.rule stays.1)
  stays_apart g d (Contract t secure places) stays = (apart_of n known g signal t net below d stays.0, stays.1)

  -- plain steps that stay are plain where the signal is known
  plain_knowing : (g : Graph) (steps : List Step) → IsDraftOf n known g → ArePlainSteps g steps → AllStay n signal g steps → ArePlainSteps (knowing more g) steps
  plain_knowing g [] d p stay = tt
  plain_knowing g (s ∷ steps) d p stay = (
    plain_stays g more name (one_more g d) s (stays_apart g d s stay.0) p.0,
    subst (λ h. ArePlainSteps h steps) (sym (stepped-knowing more g s)) (plain_knowing (stepped g s) steps (draft_stepped n known g s d) p.1 stay.1),
  )

  -- so they are the first plain steps of the next attempt
  pub kept_are_plain : (steps : List Step) → ArePlainSteps (initial n known) steps → AllStay n signal (initial n known) steps → ArePlainSteps (initial n (known_with n known signal)) steps
  kept_are_plain steps p stay = plain_knowing (initial n known) steps (draft_initial n known) p stay
