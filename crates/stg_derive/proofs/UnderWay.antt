-- An attempt goes on: its steps so far, and what is left for it to do.
use Rattle.std.proofs.Common.{◌≡◌, ℕ, ◌+◌, ◌*◌, ◌<◌, ◌≤◌, ◌^◌, Some, List, [], ◌∷◌, ◌++◌, length, is_some, refl, arith}
use Rattle.std.proofs.lemmas.List.{length-map}
use Rattle.std.proofs.lemmas.List.FromFn.{length-map-range_with_len}
use Rattle.stg_net.specs.Graph.{Graph, place_at, full_name_at}
use Rattle.stg_net.specs.declared.trans.TransName.{TransName}
use Rattle.stg_net.specs.Net.{NetLists, IsWithin}
use Rattle.stg_net.specs.Initial.{place_of, initial, full_name}
use Rattle.stg_edit.proofs.Compacting.{few_kept}
use Rattle.stg_net.specs.declared.limits.TheConstants.Limits.{PART}
use Rattle.stg_contract.specs.Calm.{IsCalm}
use Rattle.stg_contract.proofs.Calm.{calm-without_place, calm-without_trans}
use Rattle.stg_derive.specs.declared.step.Step.{Step}
use Rattle.stg_derive.specs.declared.step.Step.TheVariants.{Contract, DropPlace, DropDummy}
use Rattle.stg_derive.specs.Steps.{IsPlainStep, stepped}
use Rattle.stg_derive.specs.inner.Drafts.{HasFewPlaces}
use Rattle.stg_derive.specs.Attempts.{stepped_all, ArePlainSteps}
use Rattle.stg_derive.proofs.StepEffects.{dummy_by, many_trans, many_places, live_rule, fewer_trans, fewer_places, as_many_places, loses_dummy, loses_contracted}

-- the draft after one more step
pub stepped-last : (g : Graph) (steps : List Step) (s : Step) → stepped_all g (steps ++ s ∷ []) ≡ stepped (stepped_all g steps) s
stepped-last g [] s = refl
stepped-last g (r ∷ steps) s = stepped-last (stepped g r) steps s

-- plain steps with one more
pub plain-last : (g : Graph) (steps : List Step) (s : Step) → ArePlainSteps g steps → IsPlainStep (stepped_all g steps) s → ArePlainSteps g (steps ++ s ∷ [])
plain-last g [] s p q = (q, tt)
plain-last g (r ∷ steps) s p q = (p.0, plain-last (stepped g r) steps s p.1 q)

-- what an attempt still has before it: transitions count more than all places
abbrev pub left : Graph → ℕ
left g = many_trans g * 8193 + many_places g

-- a step keeps the count of first places
pub step_first : (g : Graph) (s : Step) → (stepped g s).first_places ≡ g.first_places
step_first g (DropPlace found) = refl
step_first g (DropDummy found) = refl
step_first g (Contract t secure places) = refl

-- a step keeps the known signals
pub step_known : (g : Graph) (s : Step) → (stepped g s).known ≡ g.known
step_known g (DropPlace found) = refl
step_known g (DropDummy found) = refl
step_known g (Contract t secure places) = refl

-- a plain step leaves less to do
pub step_less : (g : Graph) (s : Step) → IsPlainStep g s → HasFewPlaces g → g.first_places ≤ 4064 → left (stepped g s) < left g
step_less g (DropPlace found) p few first = omega (arith, fewer_places g found.place (live_rule g found.place found.rule p.0))
step_less g (DropDummy found) p few first =
    omega (arith, as_many_places g found.trans, fewer_trans g (stepped g (DropDummy found)) found.trans (loses_dummy g found.trans) (dummy_by g found.trans found.rule p.1.0).live)
step_less g (Contract t secure places) p few first =
    let c = p.cheapest.candidate in
    omega (arith, c.contractible.few_places, first, fewer_trans g (stepped g (Contract t secure places)) t (loses_contracted g t) c.dummy.live)

-- a plain step leaves few places
pub step_few : (g : Graph) (s : Step) → IsPlainStep g s → HasFewPlaces g → HasFewPlaces (stepped g s)
step_few g (DropPlace found) p few = omega (arith, few, fewer_places g found.place (live_rule g found.place found.rule p.0))
step_few g (DropDummy found) p few = omega (arith, few, as_many_places g found.trans)
step_few g (Contract t secure places) p few = p.cheapest.candidate.contractible.few_places

-- each plain step keeps a calm draft calm
pub step_calm : (g : Graph) (s : Step) → IsPlainStep g s → IsCalm g → IsCalm (stepped g s)
step_calm g (DropPlace found) p calm = calm-without_place g found.place calm
step_calm g (DropDummy found) p calm = calm-without_trans g found.trans calm
step_calm g (Contract t secure places) p calm =
    let d = p.cheapest.candidate.contractible in record { no_conflict = d.no_conflict; within = d.within }

-- an initial component has few places
pub initial_few : (n : NetLists) (known : List ℕ) → HasFewPlaces (initial n known)
initial_few n known =
    let g = initial n known in
    omega (arith, few_kept (λ p. is_some (place_at g p)) (length g.places), length-map-range_with_len (place_of n) 0 (length n.tokens))

-- the first ones of plain steps are plain
pub plain-front : (g : Graph) (steps more : List Step) → ArePlainSteps g (steps ++ more) → ArePlainSteps g steps
plain-front g [] more p = tt
plain-front g (s ∷ steps) more p = (p.0, plain-front (stepped g s) steps more p.1)

-- plain steps leave few places, a calm draft and the count of first places
pub steps_few : (g : Graph) (steps : List Step) → ArePlainSteps g steps → HasFewPlaces g → HasFewPlaces (stepped_all g steps)
steps_few g [] p few = few
steps_few g (s ∷ steps) p few = steps_few (stepped g s) steps p.1 (step_few g s p.0 few)

pub steps_calm : (g : Graph) (steps : List Step) → ArePlainSteps g steps → IsCalm g → IsCalm (stepped_all g steps)
steps_calm g [] p calm = calm
steps_calm g (s ∷ steps) p calm = steps_calm (stepped g s) steps p.1 (step_calm g s p.0 calm)

-- and less to do by each of them
pub steps_less : (g : Graph) (steps : List Step) → ArePlainSteps g steps → HasFewPlaces g → g.first_places ≤ 4064 → length steps + left (stepped_all g steps) ≤ left g
steps_less g [] p few first = omega arith
steps_less g (s ∷ steps) p few first =
    omega (arith, steps_less (stepped g s) steps p.1 (step_few g s p.0 few) (omega (arith, step_first g s, first)), step_less g s p.0 few first)

-- so there are not so many of them
pub steps_short : (n : NetLists) (known : List ℕ) (steps : List Step) → IsWithin PART n → ArePlainSteps (initial n known) steps → length steps < 2 ^ 32
steps_short n known steps within p =
    let g = initial n known in
    omega (
      arith,
      steps_less g steps p (initial_few n known) within.places,
      initial_few n known,
      few_kept (λ t. is_some (full_name_at g t)) (length g.trans),
      length-map n.trans (λ (t : TransName). Some (full_name n t)),
      within.trans,
      within.places,
    )
