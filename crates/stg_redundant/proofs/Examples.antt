-- The rules of redundancy computed on small nets.
use Rattle.std.proofs.Common.{◌≡◌, ◌≤◌, ◌+◌, ℕ, zero, suc, true, false, List, [], ◌∷◌, slice_index, Option, Some, refl, sym, subst, inl, arith}
use Rattle.std.proofs.lemmas.List.Elements.{All-nil, All-cons}
use Rattle.stg_net.specs.declared.trans.Edge.TheVariants.{Rise}
use Rattle.stg_net.specs.Graph.{Graph, FullName, Place}
use Rattle.stg_edit.specs.Drafts.{IsWeightlessPastLast}
use Rattle.stg_laws.specs.RedundantPlaces.{IsSamePlace, IsShortcut}
use Rattle.stg_edit.specs.Counted.{live_places}
use Rattle.stg_edit.specs.Walks.{taking_trans, giving_trans}
use Rattle.stg_laws.proofs.Origins.{gives-past}
use Rattle.stg_redundant.specs.Levelled.{Levelling, GrowsAcross, IsLevelled}
use Rattle.stg_redundant.specs.Watching.{IsNearPlace, itself, IsReachedByContraction}
use Rattle.stg_redundant.specs.inner.DeadLinks.{AreBelow, AreAbove}
use Rattle.stg_redundant.proofs.LevelBounds.{falls_across}
use Rattle.stg_redundant.specs.inner.Tests.{is_same_place, is_loop_place}
use Rattle.stg_redundant.specs.inner.Chains.{HasPath}
use Rattle.stg_redundant.proofs.RuleTests.{same_place_is}
use Rattle.stg_redundant.proofs.LinkPaths.{shortcut_is}

abbrev name : ℕ → FullName
name s = record { signal = s ∷ []; edge = Rise; index = 0 }

abbrev place : ℕ → List ℕ → List ℕ → Option Place
place k taken given = Some (record { tokens = k; taken = taken; given = given })

-- two places from a+ to x+, of which the first holds a token
abbrev equal : Graph
equal = record {
  places = place 1 (0 ∷ 1 ∷ []) (1 ∷ 0 ∷ []) ∷ place 0 (0 ∷ 1 ∷ []) (1 ∷ 0 ∷ []) ∷ [];
  trans = Some (name 97) ∷ Some (name 120) ∷ [];
  known = [];
  first_places = 2;
}

narrow : IsWeightlessPastLast equal
narrow zero p past = absurd (omega (arith, past))
narrow (suc zero) p past = absurd (omega (arith, past))
narrow (suc (suc t)) zero past = (refl, refl)
narrow (suc (suc t)) (suc zero) past = (refl, refl)
narrow (suc (suc t)) (suc (suc p)) past = (refl, refl)

first_goes : IsSamePlace equal 0 1
first_goes = same_place_is equal 0 1 narrow refl refl

second_stays : is_same_place equal 1 0 ≡ false
second_stays = refl

-- a chain of places from the first transition to the second, to the third and to the fourth, beside a place from the first to the fourth
abbrev chain : Graph
chain = record {
  places = place 0 (0 ∷ 1 ∷ 0 ∷ 0 ∷ []) (1 ∷ 0 ∷ 0 ∷ 0 ∷ []) ∷ place 0 (0 ∷ 0 ∷ 0 ∷ 1 ∷ []) (1 ∷ 0 ∷ 0 ∷ 0 ∷ [])
      ∷ place 0 (0 ∷ 0 ∷ 1 ∷ 0 ∷ []) (0 ∷ 1 ∷ 0 ∷ 0 ∷ []) ∷ place 0 (0 ∷ 0 ∷ 0 ∷ 1 ∷ []) (0 ∷ 0 ∷ 1 ∷ 0 ∷ []) ∷ [];
  trans = Some (name 97) ∷ Some (name 120) ∷ Some (name 98) ∷ Some (name 121) ∷ [];
  known = [];
  first_places = 4;
}

narrow_chain : IsWeightlessPastLast chain
narrow_chain zero p past = absurd (omega (arith, past))
narrow_chain (suc zero) p past = absurd (omega (arith, past))
narrow_chain (suc (suc zero)) p past = absurd (omega (arith, past))
narrow_chain (suc (suc (suc zero))) p past = absurd (omega (arith, past))
narrow_chain (suc (suc (suc (suc t)))) zero past = (refl, refl)
narrow_chain (suc (suc (suc (suc t)))) (suc zero) past = (refl, refl)
narrow_chain (suc (suc (suc (suc t)))) (suc (suc zero)) past = (refl, refl)
narrow_chain (suc (suc (suc (suc t)))) (suc (suc (suc zero))) past = (refl, refl)
narrow_chain (suc (suc (suc (suc t)))) (suc (suc (suc (suc p)))) past = (refl, refl)

long_way : HasPath chain 1 0 3 0 0
long_way = record {
  path = record { place = 0; giver = 0; taker = 1; tokens = 0 } ∷ record { place = 2; giver = 1; taker = 2; tokens = 0 } ∷ record { place = 3; giver = 2; taker = 3; tokens = 0 } ∷ [];
  leads = (refl, (λ e. omega (arith, e)), refl, (refl, (λ e. omega (arith, e)), refl, (refl, (λ e. omega (arith, e)), refl, refl)));
  few = omega arith;
}

is_shortcut : IsShortcut chain 1
is_shortcut = shortcut_is chain 1 (record { place = 1; giver = 0; taker = 3; tokens = 0 }) narrow_chain refl (λ e. omega (arith, e)) long_way

-- a place without arcs
abbrev idle : Graph
idle = record equal { places = place 0 (0 ∷ 0 ∷ []) (0 ∷ 0 ∷ []) ∷ [] }

idle_loops : is_loop_place idle 0 ≡ true
idle_loops = refl

-- its levels grow by 1 from each transition to the next
abbrev steps : Levelling
steps = record { numbers = 0 ∷ 1 ∷ 2 ∷ 3 ∷ []; rise = 1; fall = 0 }

grows_at : (p u t : ℕ) → giving_trans chain p ≡ (u, 1) ∷ [] → taking_trans chain p ≡ (t, 1) ∷ []
    → slice_index steps.numbers u + 1 ≤ slice_index steps.numbers t → GrowsAcross chain steps p
grows_at p u t given taken less =
    falls_across chain steps p (slice_index steps.numbers u + 1) (slice_index steps.numbers t) narrow_chain
    (subst (AreBelow steps.numbers 1 (slice_index steps.numbers u + 1)) (sym given) (All-cons (λ x. slice_index steps.numbers x.0 + 1 ≤ slice_index steps.numbers u + 1) (u, 1) [] (omega arith) (All-nil (λ x. slice_index steps.numbers x.0 + 1 ≤ slice_index steps.numbers u + 1))))
    (subst (AreAbove steps.numbers (slice_index steps.numbers t)) (sym taken) (All-cons (λ x. slice_index steps.numbers t ≤ slice_index steps.numbers x.0) (t, 1) [] (omega arith) (All-nil (λ x. slice_index steps.numbers t ≤ slice_index steps.numbers x.0))))
    (omega (arith, less))

levels_of_chain : IsLevelled chain steps
levels_of_chain = record {
  long = refl;
  grows = each;
}
  where
    each : (p : ℕ) → GrowsAcross chain steps p
    each zero = grows_at 0 0 1 refl refl (omega arith)
    each (suc zero) = grows_at 1 0 3 refl refl (omega arith)
    each (suc (suc zero)) = grows_at 2 1 2 refl refl (omega arith)
    each (suc (suc (suc zero))) = grows_at 3 2 3 refl refl (omega arith)
    each (suc (suc (suc (suc p)))) = λ u t given taken. absurd (omega (arith, given, gives-past chain u (suc (suc (suc (suc p)))) (omega arith)))

-- the first place is near the second transition; once that is contracted, the new place is in reach
near_second : IsNearPlace chain 1 0
near_second = inl (omega arith)

new_reached : IsReachedByContraction chain 1 4
new_reached = itself refl (omega arith)

-- each place is watched from the start
all_watched : live_places chain ≡ 0 ∷ 1 ∷ 2 ∷ 3 ∷ []
all_watched = refl
