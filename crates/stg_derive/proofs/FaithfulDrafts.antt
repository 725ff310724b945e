-- The net of a plain derivation is faithful to the specification.
use Rattle.std.proofs.Common.{◌≡◌, ℕ, ◌<◌, true, false, Option, Some, None, List, length, All, subst}
use Rattle.stg_net.specs.Graph.{Graph, FullName, full_name_at, has_signal_of, is_among}
use Rattle.stg_net.specs.Initial.{initial, graph_of}
use Rattle.stg_net.specs.Net.{NetLists, IsNet, signal_at}
use Rattle.stg_net.specs.Component.{is_one_of}
use Rattle.stg_laws.specs.Closed.{IsClosed}
use Rattle.stg_laws.specs.Deterministic.{HasNoDummy}
use Rattle.stg_laws.specs.Faithful.{IsFaithful}
use Rattle.stg_laws.specs.Groups.{names_at}
use Rattle.stg_laws.specs.Stgs.{stg_of, is_driven}
use Rattle.stg_laws.proofs.Components.{net_distinct, net_all_known, driven_own}
use Rattle.stg_laws.proofs.Declaring.{declared}
use Rattle.stg_laws.proofs.Deriving.{derivation_is_faithful, with_known}
use Rattle.stg_laws.proofs.Keeping.{Keeps}
use Rattle.stg_laws.proofs.Renumbering.{renumbered_keeps, renumbered_no_dummy}
use Rattle.stg_laws.proofs.KnownSignals.{named_among}
use Rattle.stg_net.proofs.Members.{contained-one_of}
use Rattle.stg_edit.specs.Compacted.{IsNetOf}
use Rattle.stg_derive.specs.declared.step.Step.{Step}
use Rattle.stg_derive.specs.Attempts.{stepped_all, ArePlainSteps}
use Rattle.stg_derive.proofs.DraftNumbers.{draft_renumbers}
use Rattle.stg_derive.proofs.DraftSignals.{net_knows_same, declared_there}
use Rattle.stg_derive.proofs.Keeping.{keeps_trans, steps_keep}
use Rattle.stg_derive.proofs.Restoring.{steps_known}

-- a larger list of known signals and a smaller list of own ones are closed as well
pub closed_more : (g : Graph) (own mine signals more : List (List ℕ)) → IsClosed g own signals
    → ((s : List ℕ) → is_among mine s ≡ true → is_among own s ≡ true) → ((s : List ℕ) → is_among signals s ≡ true → is_among more s ≡ true) → IsClosed g mine more
closed_more g own mine signals more closed less wider t u p mine_t takes_t live arc =
    has_more signals more wider (full_name_at g u) (closed t u p (has_more mine own less (full_name_at g t) mine_t) takes_t live arc)
  where
    has_more : (x y : List (List ℕ)) → ((s : List ℕ) → is_among x s ≡ true → is_among y s ≡ true) → (o : Option FullName) → has_signal_of x o ≡ true → has_signal_of y o ≡ true
    has_more x y wider None e = e
    has_more x y wider (Some name) e = wider name.signal e

module _ (n : NetLists) (net : IsNet n) (known : List ℕ) (range : All (λ s. s < length n.signals) known) (own : List ℕ) (steps : List Step) (plain : ArePlainSteps (initial n known) steps) (m : NetLists) (is : IsNetOf n.signals (stepped_all (initial n known) steps) own m) where
  abbrev pub g : Graph
  g = stepped_all (initial n known) steps

  g_known : g.known ≡ names_at n known
  g_known = steps_known (initial n known) steps

  renumbered_keeps_it : Keeps g (graph_of m)
  renumbered_keeps_it = renumbered_keeps g (graph_of m) (draft_renumbers n g own m is (net_knows_same n net known own range g g_known m is.signals))

  pub draft_keeps : Keeps (with_known (graph_of n) (names_at n known)) (graph_of m)
  draft_keeps = keeps_trans (initial n known) g (graph_of m) (steps_keep (initial n known) steps plain) renumbered_keeps_it

  pub draft_no_dummy : HasNoDummy g → HasNoDummy (graph_of m)
  draft_no_dummy none = renumbered_no_dummy g (graph_of m) (draft_renumbers n g own m is (net_knows_same n net known own range g g_known m is.signals)) none

  -- what the net drives are own signals
  drives_own : (s : List ℕ) → is_among (stg_of m).driven s ≡ true → is_among (names_at n own) s ≡ true
  drives_own s e =
      let d = declared is_driven m.signals s e in
      let c = declared_there n net known own range g g_known m is.signals is_driven s d.0 d.1 in
      let o = driven_own (is_one_of own c.0) false (signal_at n.signals c.0).kind c.1.passes in
      subst (λ x. is_among (names_at n own) x ≡ true) c.1.named (named_among n own c.0 (contained-one_of own c.0 o.0))

  pub draft_is_faithful : IsClosed (graph_of n) (names_at n own) (names_at n known) → HasNoDummy g → IsFaithful (graph_of n) (stg_of m)
  draft_is_faithful closed none = derivation_is_faithful (graph_of n) (names_at n known) (stg_of m) (record {
    distinct = net_distinct n net;
    known = net_all_known n net;
    closed = closed_more (graph_of n) (names_at n own) (stg_of m).driven (names_at n known) (names_at n known) closed drives_own (λ s e. e);
    keeps = draft_keeps;
    no_dummy = draft_no_dummy none;
  })
