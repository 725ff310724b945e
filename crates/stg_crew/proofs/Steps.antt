-- Each step keeps the rule, as it is said by sums.
use Rattle.std.proofs.Common.{◌≡◌, ℕ, zero, suc, ◌+◌, ◌*◌, ◌<◌, ◌≤◌, ◌≢◌, ◌⊎◌, List, [], ◌∷◌, ◌++◌, length, length-append, set, sym, refl, ap, ◌∙◌, subst, inl, inr, arith, slice_index, get_or, nat_le, Bool, true, false, cond}
use Rattle.std.proofs.lemmas.List.Quantifiers.{all_pairs_push}
use Rattle.std.proofs.lemmas.Bool.{leb-false}
use Rattle.std.proofs.lemmas.List.{get_or_append_left}
use mathlib.Core.Option.{some, some-injective, some-ne-none}
use lib.ListN.{get_elem?}
use Rattle.stg_crew.specs.declared.view.SeatView.{SeatView}
use Rattle.stg_crew.specs.declared.kind.SeatKind.{SeatKind}
use Rattle.stg_crew.specs.declared.kind.SeatKind.TheVariants.{Collecting, Worker, Spent}
use Rattle.stg_crew.specs.Claims.{total, count_past, collecting, worker, spent, is_collecting, is_worker, IsDrawn, AreGroups, IsWorker, IsSpent, drawn, with_groups, split_from, joined_to}
use Rattle.stg_crew.proofs.Sums.{below, past, at_set, set_else, at_snoc, total-le, total-plus, total-by_64, total-append, total-set, term_le, below_more, past-no, past-le, below-past, below-none}
use Rattle.stg_crew.proofs.Summed.{IsCollector, FitsAs, AreSummed, fit_split, rest_none, all_split, others_spent}

-- ---- views

-- only the last number of a drawn list is past the groups
past_drawn : (g : ℕ) (xs : List ℕ) → ((i : ℕ) → i + 1 < length xs → slice_index xs i < g) → count_past g xs ≤ 1
past_drawn g [] h = omega arith
past_drawn g (x ∷ []) h = omega (arith, past-le (nat_le g x))
past_drawn g (x ∷ y ∷ ys) h =
    let first : x < g = h 0 (omega arith) in
    omega (arith, past-no g x first, past_drawn g (y ∷ ys) (λ i l. h (suc i) (omega (arith, l))))

fit_past : (k : SeatKind) (g : ℕ) (v : SeatView) → FitsAs k g v → count_past g v.list ≤ v.joined + is_worker k
fit_past Collecting g v f = omega (arith, f.few_past)
fit_past Worker g v f = omega (arith, past_drawn g v.list f.drawn.before_last)
fit_past Spent g v f = omega (arith, ap (count_past g) f.no_list)

below_by : (g x : ℕ) (b : Bool) → nat_le g x ≡ b → ◌≡◌ {A = ℕ} (cond b 1 0) 0 → x < g
below_by g x true e z = absurd (omega (arith, z))
below_by g x false e z = leb-false g x e

-- where none is past, each is below
all_below : (g : ℕ) (xs : List ℕ) → count_past g xs ≡ 0 → (k d : ℕ) → k < length xs → get_or xs k d < g
all_below g [] e k d l = absurd (omega (arith, l))
all_below g (x ∷ xs) e zero d l = below_by g x (nat_le g x) refl (omega (arith, e))
all_below g (x ∷ xs) e (suc k) d l = all_below g xs (omega (arith, e)) k d (omega (arith, l))

-- ---- what follows from the rule

module _ (draws groups : ℕ) (views : List SeatView) (h : AreSummed draws groups views) where
  few_past : total (λ (v : SeatView). count_past groups v.list) views ≤ 64
  few_past =
      let a = total-le (λ (v : SeatView). count_past groups v.list) (λ (v : SeatView). v.joined + is_worker v.kind) views (λ j v e. fit_past v.kind groups v (h.fit j v e)) in
      let b = total-plus (λ (v : SeatView). v.joined) (λ (v : SeatView). is_worker v.kind) views in
      let c = total-le (λ (v : SeatView). v.split) (λ (v : SeatView). 64 * is_collecting v.kind) views (λ j v e. fit_split v.kind groups v (h.fit j v e)) in
      let d = total-by_64 (λ (v : SeatView). is_collecting v.kind) views in
      omega (arith, a, b, c, d, h.one_collects, h.workers)

  pub few_draws : draws ≤ 314
  few_draws = omega (arith, below-past groups draws, h.once (past groups), few_past, h.most)

  module _ (id : ℕ) (v : SeatView) (here : get_elem? views id ≡ some v) where
    pub fits : (k : SeatKind) → v.kind ≡ k → FitsAs k groups v
    fits k e = subst (λ k. FitsAs k groups v) e (h.fit id v here)

    -- the numbers of a list were drawn
    pub older : (k d : ℕ) → k < length v.list → get_or v.list k d < draws
    older k d l =
        let none : count_past draws v.list ≤ 0 = omega (arith, term_le (λ (u : SeatView). total (past draws) u.list) views id v here, h.once (past draws), below-none draws draws (omega arith)) in
        all_below draws v.list (omega (arith, none)) k d l

    -- where all were taken in, no view is a worker's
    pub no_workers : v.kind ≡ Collecting → v.joined ≡ v.split → total (λ (u : SeatView). is_worker u.kind) views ≡ 0
    no_workers is all = omega (arith, all_split groups views h.fit h.one_collects id v here is, h.workers, all, term_le (λ (u : SeatView). u.joined) views id v here)

-- ---- the steps

pub first_holds : AreSummed 0 0 (collecting 0 ∷ [])
first_holds = record {
  once = λ f. refl;
  fit = first_fits;
  one_collects = refl;
  workers = refl;
  most = omega arith;
}
  where
    fits_as : (v : SeatView) → collecting 0 ≡ v → FitsAs v.kind 0 v
    fits_as v e = subst (λ (u : SeatView). FitsAs u.kind 0 u) e (record { few_past = omega arith; joined_split = omega arith; most = omega arith; groups_are = refl })

    first_fits : (j : ℕ) (v : SeatView) → get_elem? (collecting 0 ∷ []) j ≡ some v → FitsAs v.kind 0 v
    first_fits zero v e = fits_as v (some-injective (collecting 0) v e)
    first_fits (suc j) v e = absurd (some-ne-none v (sym e))

module _ (draws groups : ℕ) (views : List SeatView) (h : AreSummed draws groups views) (id : ℕ) (v : SeatView) (here : get_elem? views id ≡ some v) where
  -- one view changes
  changed_fits : (g : ℕ) (w : SeatView) → FitsAs w.kind g w → ((j : ℕ) (u : SeatView) → j ≢ id → get_elem? views j ≡ some u → FitsAs u.kind g u)
      → (j : ℕ) (u : SeatView) → get_elem? (set views id w) j ≡ some u → FitsAs u.kind g u
  changed_fits g w new old j u e = by (at_set views id j w u e)
    where
      by : ((j ≡ id) × (w ≡ u)) ⊎ ((j ≢ id) × (get_elem? views j ≡ some u)) → FitsAs u.kind g u
      by (inl t) = subst (λ (u : SeatView). FitsAs u.kind g u) t.1 new
      by (inr t) = old j u t.0 t.1

  old_fits : (j : ℕ) (u : SeatView) → j ≢ id → get_elem? views j ≡ some u → FitsAs u.kind groups u
  old_fits j u n e = h.fit j u e

  drawn_list : IsWorker groups v → AreGroups groups v.list → IsDrawn groups (v.list ++ draws ∷ [])
  drawn_list is goes = record {
    ascends = all_pairs_push (λ a b. a < b) v.list draws is.drawn.ascends (λ k d l. older draws groups views h id v here k d l);
    before_last = λ i l. let short : i < length v.list = omega (arith, l, length-append v.list (draws ∷ [])) in
        subst (λ x. x < groups) (sym (get_or_append_left v.list (draws ∷ []) 0 i short)) (goes i 0 short);
  }

  pub draw_holds : v.kind ≡ Worker → AreGroups v.groups v.list → AreSummed (draws + 1) groups (set views id (drawn draws v))
  draw_holds is goes = record {
    once = λ f. omega (arith, total-set (λ (u : SeatView). total f u.list) views id v (drawn draws v) here, total-append f v.list (draws ∷ []), h.once f, below_more f draws);
    fit = changed_fits groups (drawn draws v) (subst (λ k. FitsAs k groups (drawn draws v)) (sym is) new) old_fits;
    one_collects = omega (arith, total-set (λ (u : SeatView). is_collecting u.kind) views id v (drawn draws v) here, h.one_collects);
    workers = omega (arith, total-set (λ (u : SeatView). u.split) views id v (drawn draws v) here, total-set (λ (u : SeatView). u.joined) views id v (drawn draws v) here, total-set (λ (u : SeatView). is_worker u.kind) views id v (drawn draws v) here, h.workers);
    most = h.most;
  }
    where
      was : IsWorker groups v
      was = fits draws groups views h id v here Worker is

      new : IsWorker groups (drawn draws v)
      new = record { drawn = drawn_list was (subst (λ g. AreGroups g v.list) was.groups_are goes); no_split = was.no_split; no_joined = was.no_joined; groups_are = was.groups_are }

  pub split_holds : v.kind ≡ Collecting → v.split < 64 → AreSummed draws groups (set views id (split_from v) ++ worker v.groups ∷ [])
  split_holds is room = record {
    once = λ f. omega (arith, total-append (λ (u : SeatView). total f u.list) (set views id (split_from v)) (worker v.groups ∷ []), total-set (λ (u : SeatView). total f u.list) views id v (split_from v) here, h.once f);
    fit = λ j u e. by j u (at_snoc (set views id (split_from v)) (worker v.groups) u j e);
    one_collects = omega (arith, total-append (λ (u : SeatView). is_collecting u.kind) (set views id (split_from v)) (worker v.groups ∷ []), total-set (λ (u : SeatView). is_collecting u.kind) views id v (split_from v) here, h.one_collects);
    workers = omega (
      arith,
      total-append (λ (u : SeatView). u.split) (set views id (split_from v)) (worker v.groups ∷ []),
      total-set (λ (u : SeatView). u.split) views id v (split_from v) here,
      total-append (λ (u : SeatView). u.joined) (set views id (split_from v)) (worker v.groups ∷ []),
      total-set (λ (u : SeatView). u.joined) views id v (split_from v) here,
      total-append (λ (u : SeatView). is_worker u.kind) (set views id (split_from v)) (worker v.groups ∷ []),
      total-set (λ (u : SeatView). is_worker u.kind) views id v (split_from v) here,
      h.workers,
    );
    most = h.most;
  }
    where
      was : IsCollector groups v
      was = fits draws groups views h id v here Collecting is

      new : IsCollector groups (split_from v)
      new = record { few_past = was.few_past; joined_split = omega (arith, was.joined_split); most = omega (arith, room); groups_are = was.groups_are }

      fresh : FitsAs Worker groups (worker v.groups)
      fresh = record { drawn = record { ascends = λ i j d a b. absurd (omega (arith, a, b)); before_last = λ i l. absurd (omega (arith, l)) }; no_split = refl; no_joined = refl; groups_are = was.groups_are }

      by : (j : ℕ) (u : SeatView) → (get_elem? (set views id (split_from v)) j ≡ some u) ⊎ (worker v.groups ≡ u) → FitsAs u.kind groups u
      by j u (inl e) = changed_fits groups (split_from v) (subst (λ k. FitsAs k groups (split_from v)) (sym is) new) old_fits j u e
      by j u (inr e) = subst (λ (u : SeatView). FitsAs u.kind groups u) e fresh

  pub set_holds : (n : ℕ) → v.kind ≡ Collecting → v.split ≡ 0 → v.groups ≡ 0 → v.list ≡ [] → n ≤ 250 → (groups ≡ 0) × AreSummed draws n (set views id (with_groups n v))
  set_holds n is no_split no_groups no_list few = (
    sym (was.groups_are) ∙ no_groups,
    record {
      once = λ f. omega (arith, total-set (λ (u : SeatView). total f u.list) views id v (with_groups n v) here, h.once f);
      fit = changed_fits n (with_groups n v) (subst (λ k. FitsAs k n (with_groups n v)) (sym is) new) (λ j u ne e. other u (h.fit j u e) (others_spent groups views h.fit h.one_collects id v here is none j u ne e));
      one_collects = omega (arith, total-set (λ (u : SeatView). is_collecting u.kind) views id v (with_groups n v) here, h.one_collects);
      workers = omega (arith, total-set (λ (u : SeatView). u.split) views id v (with_groups n v) here, total-set (λ (u : SeatView). u.joined) views id v (with_groups n v) here, total-set (λ (u : SeatView). is_worker u.kind) views id v (with_groups n v) here, h.workers);
      most = few;
    },
  )
    where
      was : IsCollector groups v
      was = fits draws groups views h id v here Collecting is

      none : total (λ (u : SeatView). is_worker u.kind) views ≡ 0
      none = no_workers draws groups views h id v here is (omega (arith, was.joined_split, no_split))

      new : IsCollector n (with_groups n v)
      new = record { few_past = omega (arith, ap (count_past n) no_list); joined_split = was.joined_split; most = was.most; groups_are = refl }

      other : (u : SeatView) → FitsAs u.kind groups u → u.kind ≡ Spent → FitsAs u.kind n u
      other u fit is = let s : IsSpent u = subst (λ k. FitsAs k groups u) is fit in subst (λ k. FitsAs k n u) (sym is) s

  -- a worker's view beside the collecting one
  module _ (other : ℕ) (w : SeatView) (apart : other ≢ id) (there : get_elem? views other ≡ some w) where
    abbrev both : SeatView
    both = joined_to v w

    joined_sum : (f : SeatView → ℕ) → f spent ≡ 0 → total f (set (set views id both) other spent) + f v + f w ≡ total f views + f both
    joined_sum f z =
        let still : get_elem? (set views id both) other ≡ some w = set_else views id other both apart ∙ there in
        omega (arith, total-set f (set views id both) other w spent still, total-set f views id v both here, z)

    pub join_holds : v.kind ≡ Collecting → w.kind ≡ Worker → AreSummed draws groups (set (set views id (joined_to v w)) other spent)
    join_holds is drew = record {
      once = λ f. omega (arith, joined_sum (λ (u : SeatView). total f u.list) refl, total-append f v.list w.list, h.once f);
      fit = λ j u e. by j u (at_set (set views id both) other j spent u e);
      one_collects = omega (arith, joined_sum (λ (u : SeatView). is_collecting u.kind) refl, h.one_collects, ap is_collecting drew);
      workers = omega (arith, joined_sum (λ (u : SeatView). u.split) refl, joined_sum (λ (u : SeatView). u.joined) refl, joined_sum (λ (u : SeatView). is_worker u.kind) refl, h.workers, ap is_worker drew, worked.no_split, worked.no_joined);
      most = h.most;
    }
      where
        was : IsCollector groups v
        was = fits draws groups views h id v here Collecting is

        worked : IsWorker groups w
        worked = fits draws groups views h other w there Worker drew

        room : v.joined + 1 ≤ v.split
        room = omega (arith, all_split groups views h.fit h.one_collects id v here is, h.workers, term_le (λ (u : SeatView). u.joined) views id v here, term_le (λ (u : SeatView). is_worker u.kind) views other w there, ap is_worker drew)

        new : IsCollector groups both
        new = record {
          few_past = omega (arith, total-append (past groups) v.list w.list, was.few_past, past_drawn groups w.list worked.drawn.before_last);
          joined_split = room;
          most = was.most;
          groups_are = was.groups_are;
        }

        gone : IsSpent spent
        gone = record { no_list = refl; no_split = refl; no_joined = refl }

        by : (j : ℕ) (u : SeatView) → ((j ≡ other) × (spent ≡ u)) ⊎ ((j ≢ other) × (get_elem? (set views id both) j ≡ some u)) → FitsAs u.kind groups u
        by j u (inl t) = subst (λ (u : SeatView). FitsAs u.kind groups u) t.1 gone
        by j u (inr t) = changed_fits groups both (subst (λ k. FitsAs k groups both) (sym is) new) old_fits j u t.1

  -- where all were taken in, the collecting view has the draws
  pub closed : v.kind ≡ Collecting → v.joined ≡ v.split → (f : ℕ → ℕ) → total f v.list ≡ below f draws
  closed is all f = sym (rest_none groups views h.fit h.one_collects id v here is (λ (u : SeatView). total f u.list) refl (λ j u n e. none u (h.fit j u e) (others_spent groups views h.fit h.one_collects id v here is (no_workers draws groups views h id v here is all) j u n e))) ∙ h.once f
    where
      none : (u : SeatView) → FitsAs u.kind groups u → u.kind ≡ Spent → total f u.list ≡ 0
      none u fit is = let s : IsSpent u = subst (λ k. FitsAs k groups u) is fit in ap (total f) s.no_list
