-- The numbers of a derivation can be logged.
use Rattle.std.proofs.Common.{◌≡◌, ℕ, ◌+◌, ◌*◌, ◌<◌, ◌≤◌, true, List, [], ◌∷◌, map, flat_map, length, All, Option, Some, None, is_some, nat_lt, refl, sym, ◌∙◌, subst, arith}
use Rattle.std.proofs.lemmas.Bool.{false≢true}
use Rattle.std.proofs.lemmas.List.{length-append, length-map, length-set}
use Rattle.std.proofs.lemmas.List.Elements.{All-nil, All-cons}
use Rattle.std.proofs.lemmas.List.FromFn.{length-map-range_with_len}
use Rattle.stg_net.specs.Contraction.{places_before, places_after, pairs_round, pair_place, remaining_place, contracted, without_arcs_of}
use Rattle.stg_net.specs.Graph.{Graph, Place, IsDummy, place_at, full_name_at, taken_by, given_by, takes, gives, place_numbers}
use Rattle.stg_net.specs.Initial.{initial, place_of, full_name}
use Rattle.stg_net.specs.declared.limits.TheConstants.Limits.{SPEC}
use Rattle.stg_net.specs.Net.{NetLists, IsNet, IsWithin}
use Rattle.stg_laws.proofs.Names.{live_from}
use Rattle.stg_edit.specs.Replacing.{new_places}
use Rattle.stg_edit.proofs.Compacting.{few_kept}
use Rattle.stg_contract.specs.declared.verdict.Verdict.{Verdict}
use Rattle.stg_contract.specs.declared.verdict.Verdict.TheVariants as verdict
use Rattle.stg_contract.specs.Verdicts.{IsVerdict}
use Rattle.stg_redundant.specs.declared.found.PlaceRule.{PlaceRule}
use Rattle.stg_redundant.specs.declared.found.PlaceRule.TheVariants as place_rule
use Rattle.stg_redundant.specs.declared.found.DummyRule.{DummyRule}
use Rattle.stg_redundant.specs.declared.found.DummyRule.TheVariants as dummy_rule
use Rattle.stg_redundant.specs.Rules.{IsPlaceRule, IsDummyRule}
use Rattle.stg_derive.specs.declared.part.Restore.{Restore}
use Rattle.stg_derive.specs.declared.step.Step.{Step}
use Rattle.stg_derive.specs.declared.step.Step.TheVariants.{Contract, DropPlace, DropDummy}
use Rattle.stg_derive.specs.Attempts.{stepped_all, ArePlainSteps, IsAttempt}
use Rattle.stg_derive.specs.declared.part.Part.{Part}
use Rattle.stg_derive.specs.Derivations.{IsStuck, known_with, with_restored, AreGivenBack}
use Rattle.stg_derive.specs.Loggable.{IsLoggable, log_limit, IsLoggableVerdict, IsLoggableRecord, IsLoggablePlaceRule, IsLoggableDummyRule, IsLoggableStep}
use Rattle.stg_contract.specs.Candidates.{IsCandidate}
use Rattle.stg_derive.specs.Steps.{IsPlainStep, stepped}
use Rattle.stg_derive.specs.inner.Drafts.{HasFewPlaces}
use Rattle.stg_derive.specs.inner.UnderWay.{HasTransBelow}
use Rattle.stg_derive.proofs.Counting.{count_le}
use Rattle.stg_derive.proofs.StepEffects.{dummy_by, many_trans, many_places, live_rule, live_place_below, live_trans_below, fewer_trans, few_new, loses_dummy, loses_contracted}
use Rattle.stg_derive.proofs.UnderWay.{step_first, steps_few, initial_few}
use Rattle.stg_derive.proofs.Restoring.{dummy_hidden, left_dummy, stuck_hidden}
use Rattle.stg_derive.proofs.FinishedNets.{steps_long, steps_first}

-- what bounds the numbers of places: each live transition may still make as many as may be live
abbrev pub room : Graph → ℕ
room g = length g.places + many_trans g * 8192

contracted_long : (g : Graph) (t : ℕ) → length (contracted g t).places ≡ length g.places + new_places g t
contracted_long g t =
    length-append (map (remaining_place g t) (place_numbers g)) (map (pair_place g t) (pairs_round g t))
    ∙ (λ i. length-map-range_with_len (remaining_place g t) 0 (length g.places) i + length-map (pairs_round g t) (pair_place g t) i)

-- a plain step needs no more room
step_room : (g : Graph) (s : Step) → IsPlainStep g s → g.first_places ≤ 4064 → room (stepped g s) ≤ room g
step_room g (DropPlace found) p first = omega (arith, length-set g.places found.place None)
step_room g (DropDummy found) p first =
    omega (arith, length-map g.places (without_arcs_of found.trans), fewer_trans g (stepped g (DropDummy found)) found.trans (loses_dummy g found.trans) (dummy_by g found.trans found.rule p.1.0).live)
step_room g (Contract t secure places) p first =
    let c = p.cheapest.candidate in
    omega (arith, contracted_long g t, few_new g t, c.contractible.few_places, first, fewer_trans g (stepped g (Contract t secure places)) t (loses_contracted g t) c.dummy.live)

rule_told : (g : Graph) (p : ℕ) (rule : PlaceRule) → IsPlaceRule g p rule → length g.places < log_limit → IsLoggablePlaceRule rule
rule_told g p (place_rule.Same q) r small = omega (arith, live_place_below g q r.0.other_live, small)
rule_told g p place_rule.Loop r small = tt
rule_told g p place_rule.Shortcut r small = tt

reason_told : (g : Graph) (t : ℕ) (rule : DummyRule) (trans : ℕ) → IsDummyRule g t rule → length g.trans ≡ trans → IsLoggableDummyRule trans rule
reason_told g t dummy_rule.Loop trans r long = tt
reason_told g t (dummy_rule.Same u) trans r long = omega (arith, live_trans_below g u r.1.other_dummy.live, long)

-- the transitions of a plain step are there
pub step_there : (g : Graph) (s : Step) (trans : ℕ) → IsPlainStep g s → length g.trans ≡ trans → HasTransBelow trans s
step_there g (DropPlace found) trans p long = tt
step_there g (DropDummy found) trans p long = (omega (arith, live_trans_below g found.trans (dummy_by g found.trans found.rule p.1.0).live, long), reason_told g found.trans found.rule trans p.1.0 long)
step_there g (Contract t secure places) trans p long = omega (arith, live_trans_below g t p.cheapest.candidate.dummy.live, long)

step_told : (g : Graph) (s : Step) (trans : ℕ) → IsPlainStep g s → g.first_places ≤ 4064 → room g < log_limit → length g.trans ≡ trans → IsLoggableStep trans s
step_told g (DropPlace found) trans p first small long =
    let below : length g.places < log_limit = omega (arith, small) in
    (omega (arith, live_place_below g found.place (live_rule g found.place found.rule p.0), small), rule_told g found.place found.rule p.0 below)
step_told g (DropDummy found) trans p first small long = (omega (arith, live_trans_below g found.trans (dummy_by g found.trans found.rule p.1.0).live, long), reason_told g found.trans found.rule trans p.1.0 long)
step_told g (Contract t secure places) trans p first small long =
    let c = p.cheapest.candidate in (omega (arith, live_trans_below g t c.dummy.live, long), omega (arith, p.places_are, few_new g t, c.contractible.few_places, first))

-- so all steps of an attempt can be told
pub steps_told : (g : Graph) (steps : List Step) (trans : ℕ) → ArePlainSteps g steps → g.first_places ≤ 4064 → room g < log_limit → length g.trans ≡ trans → All (IsLoggableStep trans) steps
steps_told g [] trans p first small long = All-nil (IsLoggableStep trans)
steps_told g (s ∷ steps) trans p first small long =
    All-cons (IsLoggableStep trans) s steps (step_told g s trans p.0 first small long)
    (steps_told (stepped g s) steps trans p.1 (omega (arith, step_first g s, first)) (omega (arith, step_room g s p.0 first, small)) (step_long_is s long))
  where
    step_long_is : (s : Step) → length g.trans ≡ trans → length (stepped g s).trans ≡ trans
    step_long_is s long = steps_long g (s ∷ []) ∙ long

-- an initial component has room
pub initial_room : (n : NetLists) (known : List ℕ) → length n.tokens ≤ 4064 → length n.trans ≤ 1000 → room (initial n known) < log_limit
initial_room n known places trans =
    let g = initial n known in
    omega (arith, length-map-range_with_len (place_of n) 0 (length n.tokens), few_kept (λ t. is_some (full_name_at g t)) (length g.trans), length-map n.trans (λ t. Some (full_name n t)), places, trans)

steps_room : (g : Graph) (steps : List Step) → ArePlainSteps g steps → g.first_places ≤ 4064 → room (stepped_all g steps) ≤ room g
steps_room g [] p first = omega arith
steps_room g (s ∷ steps) p first = omega (arith, steps_room (stepped g s) steps p.1 (omega (arith, step_first g s, first)), step_room g s p.0 first)

-- a place that t takes from, or gives to, is live
taken_live : (t : ℕ) (o : Option Place) → nat_lt 0 (taken_by t o) ≡ true → is_some o ≡ true
taken_live t None e = absurd (false≢true e)
taken_live t (Some x) e = refl

given_live : (t : ℕ) (o : Option Place) → nat_lt 0 (given_by t o) ≡ true → is_some o ≡ true
given_live t None e = absurd (false≢true e)
given_live t (Some x) e = refl

few_before : (g : Graph) (t : ℕ) → length (places_before g t) ≤ many_places g
few_before g t = count_le (λ p. is_some (place_at g p)) (λ p. nat_lt 0 (takes g t p)) (length g.places) (λ p below e. taken_live t (place_at g p) e)

few_after : (g : Graph) (t : ℕ) → length (places_after g t) ≤ many_places g
few_after g t = count_le (λ p. is_some (place_at g p)) (λ p. nat_lt 0 (gives g t p)) (length g.places) (λ p below e. given_live t (place_at g p) e)

pairs_few : (after before : List ℕ) → length after ≤ 8192 → length {A = ℕ × ℕ} (flat_map (λ p. map (λ q. (p, q)) after) before) ≤ length before * 8192
pairs_few after [] le = omega arith
pairs_few after (p ∷ before) le =
    let f : ℕ → ℕ × ℕ = λ q. (p, q) in
    let rest : List (ℕ × ℕ) = flat_map (λ p. map (λ q. (p, q)) after) before in
    omega (arith, length-append (map f after) rest, length-map after f, pairs_few after before le, le)

few_pairs : (g : Graph) (t : ℕ) → HasFewPlaces g → g.first_places ≤ 4064 → new_places g t ≤ 67108864
few_pairs g t few first =
    omega (arith, pairs_few (places_after g t) (places_before g t) (omega (arith, few_after g t, few, first)), few_before g t, few, first)

verdict_told : (g : Graph) (t : ℕ) (v : Verdict) (trans : ℕ) → IsDummy g t → IsVerdict g t v → ¬ IsCandidate g t → HasFewPlaces g → g.first_places ≤ 4064 → room g ≤ 10000000 → length g.trans ≡ trans → IsLoggableVerdict trans v
verdict_told g t verdict.Type1 trans dummy r none few first small long = absurd (none (record { dummy = dummy; contractible = r.0 }))
verdict_told g t verdict.Type2 trans dummy r none few first small long = absurd (none (record { dummy = dummy; contractible = r.0 }))
verdict_told g t verdict.Loop trans dummy r none few first small long = tt
verdict_told g t verdict.Weight trans dummy r none few first small long = tt
verdict_told g t verdict.Insecure trans dummy r none few first small long = tt
verdict_told g t (verdict.Clash a b) trans dummy r none few first small long =
    let h = contracted g t in
    let rivals = r.1.clashing.clash.conflict.rivals in
    let same : length h.trans ≡ trans = length-set g.trans t None ∙ long in
    (omega (arith, live_trans_below h a (live_from h a rivals.t_name rivals.t_has), same), omega (arith, live_trans_below h b (live_from h b rivals.u_name rivals.u_has), same))
verdict_told g t (verdict.Places k) trans dummy r none few first small long =
    let h = contracted g t in
    omega (arith, r.number, few_kept (λ p. is_some (place_at h p)) (length h.places), contracted_long g t, few_pairs g t few first, small)
verdict_told g t verdict.Large trans dummy r none few first small long = tt

-- the record of an attempt can be told
stuck_told : (n : NetLists) (known : List ℕ) (r : Restore) → IsNet n → length n.tokens ≤ 4064 → length n.trans ≤ 1000 → IsStuck n known r → IsLoggableRecord n r
stuck_told n known r net places trans s =
    let g = initial n known in
    let end = stepped_all g s.steps in
    let h = dummy_hidden n known r.trans net (left_dummy g s.steps r.trans s.recorded.least.dummy) in
    let small : room g ≤ 10000000 = omega (arith, length-map-range_with_len (place_of n) 0 (length n.tokens), few_kept (λ t. is_some (full_name_at g t)) (length g.trans), length-map n.trans (λ t. Some (full_name n t)), places, trans) in
    let first : g.first_places ≤ 4064 = omega (arith, places) in
    record {
      there = h.0;
      signal_there = (stuck_hidden n known r net s).0;
      signal_is = s.recorded.signal_is;
      verdict = verdict_told end r.trans r.verdict (length n.trans) s.recorded.least.dummy s.recorded.verdict_is (s.attempt.rests.no_candidate r.trans)
          (steps_few g s.steps s.attempt.plain (initial_few n known)) (omega (arith, steps_first g s.steps, first)) (omega (arith, steps_room g s.steps s.attempt.plain first, small))
          (steps_long g s.steps ∙ length-map n.trans (λ t. Some (full_name n t)));
    }

-- the records of all attempts can be told
pub records_told : (n : NetLists) (known : List ℕ) (restored : List Restore) → IsNet n → length n.tokens ≤ 4064 → length n.trans ≤ 1000 → AreGivenBack n known restored → All (IsLoggableRecord n) restored
records_told n known [] net places trans a = All-nil (IsLoggableRecord n)
records_told n known (r ∷ restored) net places trans a =
    All-cons (IsLoggableRecord n) r restored (stuck_told n known r net places trans a.0) (records_told n (known_with n known r.signal) restored net places trans a.1)

-- what a derivation ends with can be logged
pub finished_is_loggable : (n : NetLists) → IsNet n → (begun known : List ℕ) (restored : List Restore) (steps : List Step) → known ≡ with_restored n begun restored → AreGivenBack n begun restored
    → IsAttempt (initial n known) steps → IsWithin SPEC n → (part : Part) → part.restored ≡ restored → part.steps ≡ steps → IsLoggable n part
finished_is_loggable n net begun known restored steps known_is given_back attempt within part records those =
    let places : length n.tokens ≤ 4064 = omega (arith, within.places) in
    let trans : length n.trans ≤ 1000 = omega (arith, within.trans) in
    record {
      records = subst (All (IsLoggableRecord n)) (sym records) (records_told n begun restored net places trans given_back);
      steps = subst (All (IsLoggableStep (length n.trans))) (sym those) (steps_told (initial n known) steps (length n.trans) attempt.plain (omega (arith, places)) (initial_room n known places trans) (length-map n.trans (λ t. Some (full_name n t))));
    }
