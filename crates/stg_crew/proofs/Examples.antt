-- The rule of the claims on small tables.
use Rattle.std.proofs.Common.{◌≡◌, ℕ, zero, suc, ◌<◌, ◌≤◌, List, [], ◌∷◌, All, refl, arith}
use Rattle.stg_crew.specs.declared.worker.Drawn.{Drawn}
use Rattle.stg_crew.specs.declared.kind.SeatKind.TheVariants.{Collecting, Worker}
use Rattle.stg_crew.specs.declared.view.SeatView.{SeatView}
use Rattle.stg_crew.specs.Claims.{view, collecting, worker, spent, times, HasEachBelow, AreGroups, IsOfKind, AreClaims}
use Rattle.stg_crew.specs.Drawing.{HasDrawn}
use Rattle.stg_crew.specs.Parts.{no_part}
use Rattle.stg_crew.proofs.EachBelow.{only_other}
use Rattle.stg_crew.proofs.KeptRule.{start_has_rule, set_keeps_rule, split_keeps_rule, draw_keeps_rule, join_keeps_rule}

-- Two groups and two workers. One has drawn 0 and then 2, which is past the groups, and was taken
-- in; the other has drawn 1.
abbrev views : List SeatView
views = view Collecting (0 ∷ 2 ∷ []) 2 1 2 ∷ view Worker (1 ∷ []) 0 0 2 ∷ spent ∷ []

three : HasEachBelow 3 (0 ∷ 2 ∷ 1 ∷ [])
three = record { once = once; no_other = no_other }
  where
    once : (k : ℕ) → k < 3 → times k (0 ∷ 2 ∷ 1 ∷ []) ≡ 1
    once zero h = refl
    once (suc zero) h = refl
    once (suc (suc zero)) h = refl
    once (suc (suc (suc k))) h = absurd (omega (arith, h))

    no_other : (k : ℕ) → 3 ≤ k → times k (0 ∷ 2 ∷ 1 ∷ []) ≡ 0
    no_other k h = omega (arith, only_other k 0 (λ e. omega (arith, e, h)), only_other k 2 (λ e. omega (arith, e, h)), only_other k 1 (λ e. omega (arith, e, h)))

kinds : All (λ (v : SeatView). IsOfKind v.kind 2 1 v) views
kinds zero d h = record { few_past = omega arith; split_is = refl; most = omega arith; groups_are = refl }
kinds (suc zero) d h = record {
  drawn = record { ascends = λ i j d a b. absurd (omega (arith, a, b)); before_last = λ i l. absurd (omega (arith, l)) };
  no_split = refl;
  no_joined = refl;
  groups_are = refl;
}
kinds (suc (suc zero)) d h = record { no_list = refl; no_split = refl; no_joined = refl }
kinds (suc (suc (suc k))) d h = absurd (omega (arith, h))

three_draws : AreClaims 3 2 views
three_draws = record { drawn_once = three; kinds = kinds; one_collects = refl; few_groups = omega arith }

-- a number that was drawn twice is refused
not_twice : HasEachBelow 1 (0 ∷ 0 ∷ []) → ⊥
not_twice h = omega (arith, h.once 0 (omega arith))

-- and a number that was left out
not_left_out : HasEachBelow 2 (1 ∷ []) → ⊥
not_left_out h = omega (arith, h.once 0 (omega arith))

-- one worker draws both groups, and then 2
drawn_part : ℕ → Drawn
drawn_part k = record { group = k; part = no_part }

alone : HasDrawn 2 (drawn_part 0 ∷ drawn_part 1 ∷ []) (0 ∷ 1 ∷ 2 ∷ [])
unfolding drawn_part
alone = record { are_groups = below; last = 2; past = omega arith; list_is = refl }
  where
    below : All (λ k. k < 2) (0 ∷ 1 ∷ [])
    below zero d h = omega arith
    below (suc zero) d h = omega arith
    below (suc (suc k)) d h = absurd (omega (arith, h))

-- ---- one group and one worker, from the start on: its seat is split off, draws twice and is taken in

abbrev split_one : SeatView
split_one = view Collecting [] 1 0 1

first_group : AreGroups 1 (0 ∷ [])
first_group zero d h = omega arith
first_group (suc k) d h = absurd (omega (arith, h))

after_set : AreClaims 0 1 (collecting 1 ∷ [])
after_set = set_keeps_rule 0 0 1 (collecting 0 ∷ []) 0 (collecting 0) start_has_rule refl refl refl refl refl (omega arith)

after_split : AreClaims 0 1 (split_one ∷ worker 1 ∷ [])
after_split = split_keeps_rule 0 1 (collecting 1 ∷ []) 0 (collecting 1) after_set refl refl (omega arith)

after_draw : AreClaims 1 1 (split_one ∷ view Worker (0 ∷ []) 0 0 1 ∷ [])
after_draw = draw_keeps_rule 0 1 (split_one ∷ worker 1 ∷ []) 1 (worker 1) after_split refl refl (λ k d h. absurd (omega (arith, h)))

after_last : AreClaims 2 1 (split_one ∷ view Worker (0 ∷ 1 ∷ []) 0 0 1 ∷ [])
after_last = draw_keeps_rule 1 1 (split_one ∷ view Worker (0 ∷ []) 0 0 1 ∷ []) 1 (view Worker (0 ∷ []) 0 0 1) after_draw refl refl first_group

after_join : AreClaims 2 1 (view Collecting (0 ∷ 1 ∷ []) 1 1 1 ∷ spent ∷ [])
after_join = join_keeps_rule 2 1 (split_one ∷ view Worker (0 ∷ 1 ∷ []) 0 0 1 ∷ []) 0 1 split_one (view Worker (0 ∷ 1 ∷ []) 0 0 1) after_last refl refl refl refl
