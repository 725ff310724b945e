-- Which steps stay, as they are noted: what a step adds to the notes, and what an undo takes off.
use Rattle.std.proofs.Common.{◌≡◌, ◌≤◌, ◌+◌, ℕ, List, [], ◌∷◌, ◌++◌, length, take, drop, map, unwrap_or, Option, Some, None, refl, sym, ap, ◌∙◌, subst, inl, inr, arith}
use Rattle.std.proofs.lemmas.Bool.{cases_lt, lt-ltb, le-ltb}
use Rattle.std.proofs.lemmas.List.{length-append, take-append-le, length-take-le, take-append-drop}
use Rattle.std.proofs.Math.Seq.{take-length, take-append_seam}
use Rattle.stg_net.specs.Graph.{Graph}
use Rattle.stg_net.specs.Contraction.{contracted}
use Rattle.stg_net.specs.Net.{NetLists}
use Rattle.stg_laws.specs.Conflict.{HasNoAutoConflict}
use Rattle.stg_conflict.specs.Hidden.{with_only, HasConflictFrom}
use Rattle.stg_conflict.proofs.NewClashes.{no_conflict-without_place, no_conflict-without_trans}
use Rattle.stg_redundant.specs.declared.found.DummyRule.{DummyRule}
use Rattle.stg_redundant.specs.declared.found.DummyRule.TheVariants as dummy_rule
use Rattle.stg_derive.specs.declared.step.Step.{Step}
use Rattle.stg_derive.specs.declared.step.Step.TheVariants.{Contract, DropPlace, DropDummy}
use Rattle.stg_derive.specs.Steps.{stepped}
use Rattle.stg_derive.specs.Attempts.{stepped_all}
use Rattle.stg_derive.specs.Undoing.{ComparesWithAnother, MayStay, AllStay, IsKeptNumber}
use Rattle.stg_derive.specs.inner.UnderWay.{drafts_before, IsFirstUndone, IsNotedWhere, ComparesWith, IsGone, noted_below}
use Rattle.stg_derive.proofs.OneMoreKnown.{knowing, stepped-knowing}

-- the drafts before the steps, with one more
pub drafts-last : (g : Graph) (steps : List Step) (s : Step) → drafts_before g (steps ++ s ∷ []) ≡ drafts_before g steps ++ stepped_all g steps ∷ []
drafts-last g [] s = refl
drafts-last g (r ∷ steps) s = ap (λ ds. g ∷ ds) (drafts-last (stepped g r) steps s)

-- there are as many as steps
pub length-drafts : (g : Graph) (steps : List Step) → length (drafts_before g steps) ≡ length steps
length-drafts g [] = refl
length-drafts g (s ∷ steps) = omega (arith, length-drafts (stepped g s) steps)

-- they are the same but for what is known
pub drafts-knowing : (names : List (List ℕ)) (g : Graph) (steps : List Step) → drafts_before (knowing names g) steps ≡ map (knowing names) (drafts_before g steps)
drafts-knowing names g [] = refl
drafts-knowing names g (s ∷ steps) = ap (λ ds. knowing names g ∷ ds) (ap (λ h. drafts_before h steps) (stepped-knowing names g s) ∙ drafts-knowing names (stepped g s) steps)

-- the first of the first steps
pub take-take : (k j : ℕ) (steps : List Step) → k ≤ j → j ≤ length steps → take k (take j steps) ≡ take k steps
take-take k j steps le few = sym (take-append-le k (take j steps) (drop j steps) (omega (arith, le, length-take-le j steps few))) ∙ ap (take k) (take-append-drop j steps)

module _ (n : NetLists) (signal : ℕ) where
  -- no two transitions of the signal with one label take from one place
  abbrev pub IsApartIn : Graph → Type 0
  IsApartIn g = HasNoAutoConflict (with_only n.signals signal g)

  -- a step that stays leaves it so
  apart_stepped : (g : Graph) (s : Step) → IsApartIn g → MayStay n signal g s → IsApartIn (stepped g s)
  apart_stepped g (DropPlace found) none stays = no_conflict-without_place (with_only n.signals signal g) found.place none
  apart_stepped g (DropDummy found) none stays = no_conflict-without_trans (with_only n.signals signal g) found.trans none
  apart_stepped g (Contract t secure places) none stays = stays.1

  -- and so do all that stay
  pub apart_stay : (g : Graph) (steps : List Step) → IsApartIn g → AllStay n signal g steps → IsApartIn (stepped_all g steps)
  apart_stay g [] none stay = none
  apart_stay g (s ∷ steps) none stay = apart_stay (stepped g s) steps (apart_stepped g s none stay.0) stay.1

  -- whether a step stays isn't changed by what is known
  stays_knowing : (names : List (List ℕ)) (g : Graph) (s : Step) → MayStay n signal g s → MayStay n signal (knowing names g) s
  stays_knowing names g (DropPlace found) stays = stays
  stays_knowing names g (DropDummy found) stays = stays
  stays_knowing names g (Contract t secure places) stays = stays

  all_stay-knowing : (names : List (List ℕ)) (g : Graph) (steps : List Step) → AllStay n signal g steps → AllStay n signal (knowing names g) steps
  all_stay-knowing names g [] stay = tt
  all_stay-knowing names g (s ∷ steps) stay = (stays_knowing names g s stay.0, subst (λ h. AllStay n signal h steps) (sym (stepped-knowing names g s)) (all_stay-knowing names (stepped g s) steps stay.1))

  -- nor which one is the first that doesn't
  pub first-knowing : (names : List (List ℕ)) (g : Graph) (steps : List Step) (o : Option ℕ) → IsFirstUndone n signal g steps o → IsFirstUndone n signal (knowing names g) steps o
  first-knowing names g steps None f = all_stay-knowing names g steps f
  first-knowing names g steps (Some i) f = (f.0, all_stay-knowing names g (take i steps) f.1, λ stay. f.2 (all_stay-knowing g.known (knowing names g) (take (i + 1) steps) stay))

  -- one more step that stays
  stay-last : (g : Graph) (steps : List Step) (s : Step) → AllStay n signal g steps → MayStay n signal (stepped_all g steps) s → AllStay n signal g (steps ++ s ∷ [])
  stay-last g [] s stay more = (more, tt)
  stay-last g (r ∷ steps) s stay more = (stay.0, stay-last (stepped g r) steps s stay.1 more)

  -- the last of steps that stay
  last_stays : (g : Graph) (steps : List Step) (s : Step) → AllStay n signal g (steps ++ s ∷ []) → MayStay n signal (stepped_all g steps) s
  last_stays g [] s stay = stay.0
  last_stays g (r ∷ steps) s stay = last_stays (stepped g r) steps s stay.1

  -- the first ones of steps that stay
  stay-front : (g : Graph) (steps more : List Step) → AllStay n signal g (steps ++ more) → AllStay n signal g steps
  stay-front g [] more stay = tt
  stay-front g (s ∷ steps) more stay = (stay.0, stay-front (stepped g s) steps more stay.1)

  stay-take : (g : Graph) (steps : List Step) (k : ℕ) → AllStay n signal g steps → AllStay n signal g (take k steps)
  stay-take g steps k stay = stay-front g (take k steps) (drop k steps) (subst (AllStay n signal g) (sym (take-append-drop k steps)) stay)

  -- fewer of them
  stay-fewer : (g : Graph) (steps : List Step) (k j : ℕ) → k ≤ j → j ≤ length steps → AllStay n signal g (take j steps) → AllStay n signal g (take k steps)
  stay-fewer g steps k j le few stay = subst (AllStay n signal g) (take-take k j steps le few) (stay-take g (take j steps) k stay)

  -- a rule that doesn't compare with one of the signal compares with another
  compares_other : (rule : DummyRule) → ¬ ComparesWith n signal rule → ComparesWithAnother n signal rule
  compares_other dummy_rule.Loop none = tt
  compares_other (dummy_rule.Same u) none = none

  compares_not : (rule : DummyRule) → ComparesWithAnother n signal rule → ¬ ComparesWith n signal rule
  compares_not dummy_rule.Loop other c = c
  compares_not (dummy_rule.Same u) other c = other c

  -- what isn't gone stays
  pub stays_unless : (g : Graph) (first : ℕ) (s : Step) → IsApartIn g → ((t : ℕ) → IsApartIn g → ¬ HasConflictFrom (with_only n.signals signal (contracted g t)) first → IsApartIn (contracted g t))
      → ¬ IsGone n signal (stepped g s) first s → MayStay n signal g s
  stays_unless g first (DropPlace found) none new left = tt
  stays_unless g first (DropDummy found) none new left = (λ e. left (inl e), compares_other found.rule (λ c. left (inr c)))
  stays_unless g first (Contract t secure places) none new left = (λ e. left (inl e), new t none (λ c. left (inr c)))

  -- and what is gone doesn't
  pub gone_goes : (g : Graph) (first : ℕ) (s : Step) → IsGone n signal (stepped g s) first s → ¬ MayStay n signal g s
  gone_goes g first (DropPlace found) gone stays = gone
  gone_goes g first (DropDummy found) (inl e) stays = stays.0 e
  gone_goes g first (DropDummy found) (inr c) stays = compares_not found.rule stays.1 c
  gone_goes g first (Contract t secure places) (inl e) stays = stays.0 e
  gone_goes g first (Contract t secure places) (inr c) stays = stays.1 c.t c.u c.p c.conflict

  -- the first step that doesn't stay, after one more step
  pub first-last : (g : Graph) (steps : List Step) (s : Step) (IsSo : Type 0) (old new : Option ℕ) → IsFirstUndone n signal g steps old → IsNotedWhere IsSo (length steps) old new
      → (IsSo → ¬ MayStay n signal (stepped_all g steps) s) → (AllStay n signal g steps → ¬ IsSo → MayStay n signal (stepped_all g steps) s) → IsFirstUndone n signal g (steps ++ s ∷ []) new
  first-last g steps s IsSo (Some i) new f noted goes keeps =
      subst (IsFirstUndone n signal g (steps ++ s ∷ [])) (sym noted) (
        omega (arith, f.0, length-append steps (s ∷ [])),
        subst (AllStay n signal g) (sym (take-append-le i steps (s ∷ []) (omega (arith, f.0)))) f.1,
        λ stay. f.2 (subst (AllStay n signal g) (take-append-le (i + 1) steps (s ∷ []) (omega (arith, f.0))) stay),
      )
  first-last g steps s IsSo None (Some j) f noted goes keeps =
      let all : take (length steps + 1) (steps ++ s ∷ []) ≡ steps ++ s ∷ [] = ap (λ k. take k (steps ++ s ∷ [])) (sym (length-append steps (s ∷ []))) ∙ take-length (steps ++ s ∷ []) in
      subst (λ k. IsFirstUndone n signal g (steps ++ s ∷ []) (Some k)) (sym noted.0) (
        omega (arith, length-append steps (s ∷ [])),
        subst (AllStay n signal g) (sym (take-append_seam steps (s ∷ []))) f,
        λ stay. goes noted.1 (last_stays g steps s (subst (AllStay n signal g) all stay)),
      )
  first-last g steps s IsSo None None f noted goes keeps = stay-last g steps s f (keeps f noted)

  -- what is noted of the steps that are left of an undo
  pub first-take : (g : Graph) (steps : List Step) (kept : ℕ) (o : Option ℕ) → kept ≤ length steps → IsFirstUndone n signal g steps o → IsFirstUndone n signal g (take kept steps) (noted_below kept o)
  first-take g steps kept None few f = stay-take g steps kept f
  first-take g steps kept (Some i) few f = elim (cases_lt i kept) [
    | inl l ↦ rw (lt-ltb i kept l) (
      omega (arith, l, length-take-le kept steps few),
      subst (AllStay n signal g) (sym (take-take i kept steps (omega (arith, l)) few)) f.1,
      λ stay. f.2 (subst (AllStay n signal g) (take-take (i + 1) kept steps (omega (arith, l)) few) stay),
    )
    | inr past ↦ rw (le-ltb i kept past) (stay-fewer g steps kept i past (omega (arith, f.0)) f.1)
  ]

  -- so many steps stay as the first one that doesn't has before it
  pub kept_of : (g : Graph) (steps : List Step) (o : Option ℕ) → IsFirstUndone n signal g steps o → IsKeptNumber n signal g steps (unwrap_or o (length steps))
  kept_of g steps None f = record { few = omega arith; stay = subst (AllStay n signal g) (sym (take-length steps)) f; most = λ more le stay. le }
  kept_of g steps (Some i) f = record {
    few = omega (arith, f.0);
    stay = f.1;
    most = λ more le stay. elim (cases_lt i more) [
      | inl l ↦ absurd (f.2 (stay-fewer g steps (i + 1) more (omega (arith, l)) le stay))
      | inr past ↦ past
    ];
  }
