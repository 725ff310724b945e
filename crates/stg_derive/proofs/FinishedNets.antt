-- The net with which a derivation ends can be written.
use Rattle.std.proofs.Common.{◌≡◌, ℕ, List, [], ◌∷◌, length, Some, None, is_some, refl, sym, ap, ◌∙◌, subst}
use Rattle.std.proofs.lemmas.List.{length-set, length-map}
use Rattle.stg_net.specs.declared.limits.TheConstants.Limits.{SPEC, PART}
use Rattle.stg_net.specs.Graph.{Graph, IsTrans, full_name_at}
use Rattle.stg_net.specs.Initial.{initial, graph_of, full_name}
use Rattle.stg_net.specs.Names.{IsWellNamed}
use Rattle.stg_net.specs.Net.{NetLists, IsNet, IsWithin}
use Rattle.stg_laws.specs.Groups.{names_at}
use Rattle.stg_laws.specs.Renumbered.{IsRenumbered}
use Rattle.stg_edit.specs.Counted.{count_arcs}
use Rattle.stg_edit.specs.Compacted.{IsNetOf}
use Rattle.stg_edit.specs.Editing.{Editing}
use Rattle.stg_contract.specs.Verdicts.{IsWithinLimits}
use Rattle.stg_derive.specs.declared.step.Step.{Step}
use Rattle.stg_derive.specs.declared.step.Step.TheVariants.{Contract, DropPlace, DropDummy}
use Rattle.stg_derive.specs.Steps.{stepped}
use Rattle.stg_derive.specs.inner.Drafts.{HasFewPlaces}
use Rattle.stg_derive.specs.Attempts.{stepped_all}
use Rattle.stg_derive.proofs.DraftNumbers.{draft_renumbers}
use Rattle.stg_derive.proofs.DraftSignals.{net_knows_same}
use Rattle.stg_derive.proofs.UnderWay.{step_first}
use Rattle.stg_derive.proofs.FinishedParts.{AreInRange}
use Rattle.stg_derive.proofs.Restoring.{steps_known, steps_named}
use Rattle.stg_derive.proofs.DraftLimits.{draft_is_within, draft_is_named}

step_long : (g : Graph) (s : Step) → length (stepped g s).trans ≡ length g.trans
step_long g (DropPlace found) = refl
step_long g (DropDummy found) = length-set g.trans found.trans None
step_long g (Contract t secure places) = length-set g.trans t None

-- steps keep the count of all transitions
pub steps_long : (g : Graph) (steps : List Step) → length (stepped_all g steps).trans ≡ length g.trans
steps_long g [] = refl
steps_long g (s ∷ steps) = steps_long (stepped g s) steps ∙ step_long g s

-- steps keep the count of first places
pub steps_first : (g : Graph) (steps : List Step) → (stepped_all g steps).first_places ≡ g.first_places
steps_first g [] = refl
steps_first g (s ∷ steps) = steps_first (stepped g s) steps ∙ step_first g s

module _ (n : NetLists) (net : IsNet n) (known : List ℕ) (range : AreInRange n known) (steps : List Step) (e : Editing) (own : List ℕ) (m : NetLists)
    (draft : e.now ≡ stepped_all (initial n known) steps) (same : e.signals ≡ n.signals) (is : IsNetOf e.signals e.now own m) (m_net : IsNet m) where
  long : length e.now.trans ≡ length n.trans
  long = ap (λ (g : Graph). length g.trans) draft ∙ steps_long (initial n known) steps ∙ length-map n.trans (λ t. Some (full_name n t))

  g_known : e.now.known ≡ names_at n known
  g_known = ap (λ (g : Graph). g.known) draft ∙ steps_known (initial n known) steps

  renumbers : IsRenumbered e.now (graph_of m)
  renumbers = let d : IsNetOf n.signals e.now own m = subst (λ ss. IsNetOf ss e.now own m) same is in draft_renumbers n e.now own m d (net_knows_same n net known own range e.now g_known m d.signals)

  named_as : (t : ℕ) → IsTrans e.now t → full_name_at e.now t ≡ full_name_at (graph_of n) t
  named_as t live =
      let here : full_name_at e.now t ≡ full_name_at (stepped_all (initial n known) steps) t = ap (λ (g : Graph). full_name_at g t) draft in
      here ∙ steps_named (initial n known) steps t (sym (ap is_some here) ∙ live)

  pub finished_is_within : IsWithinLimits e.now → HasFewPlaces e.now → IsWithin SPEC n → length m.arcs ≡ count_arcs e.now → IsWithin PART m
  finished_is_within small few within arcs =
      draft_is_within n e.now own m (subst (λ ss. IsNetOf ss e.now own m) same is) renumbers m_net small few (ap (λ (g : Graph). g.first_places) draft ∙ steps_first (initial n known) steps) long within arcs

  pub finished_is_named : IsWellNamed n → IsWellNamed m
  finished_is_named named = draft_is_named n e.now own m (subst (λ ss. IsNetOf ss e.now own m) same is) renumbers m_net named_as long named
