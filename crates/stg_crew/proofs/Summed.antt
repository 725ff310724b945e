-- The rule of the claims, said by sums: the form in which each step is shown to keep it.
use Rattle.std.proofs.Common.{◌≡◌, ℕ, zero, suc, ◌+◌, ◌*◌, ◌≤◌, ◌≢◌, ◌⊎◌, List, [], ◌∷◌, set, sym, refl, ap, ◌∙◌, subst, inl, inr, arith}
use Rattle.std.specs.List.{All}
use mathlib.Core.Option.{some, some-injective, some-ne-none}
use lib.ListN.{get_elem?}
use Rattle.stg_crew.specs.declared.view.SeatView.{SeatView}
use Rattle.stg_crew.specs.declared.kind.SeatKind.{SeatKind}
use Rattle.stg_crew.specs.declared.kind.SeatKind.TheVariants.{Collecting, Worker, Spent}
use Rattle.stg_crew.specs.Claims.{total, count_past, is_collecting, is_worker, count_collecting, count_workers, all_numbers, spent, IsWorker, IsSpent, IsOfKind, AreClaims}
use Rattle.stg_crew.proofs.Sums.{below, at_set, total-le, total-none, total-append, total-set, term_le, terms_le}
use Rattle.stg_crew.proofs.EachBelow.{sums_below, each_below}

-- a collecting view, but for the number of workers
pub record IsCollector (groups : ℕ) (v : SeatView) : Type 0 where
  pub few_past : count_past groups v.list ≤ v.joined
  pub joined_split : v.joined ≤ v.split
  pub most : v.split ≤ 64
  pub groups_are : v.groups ≡ groups

abbrev pub FitsAs : SeatKind → ℕ → SeatView → Type 0
FitsAs Collecting groups v = IsCollector groups v
FitsAs Worker groups v = IsWorker groups v
FitsAs Spent groups v = IsSpent v

-- whatever f is, its sum over all lists is that over the numbers below the draws; where each seat
-- was split off, it is a worker's or was taken in
pub record AreSummed (draws groups : ℕ) (views : List SeatView) : Type 0 where
  pub once : (f : ℕ → ℕ) → total (λ (v : SeatView). total f v.list) views ≡ below f draws
  pub fit : (j : ℕ) (v : SeatView) → get_elem? views j ≡ some v → FitsAs v.kind groups v
  pub one_collects : total (λ (v : SeatView). is_collecting v.kind) views ≡ 1
  pub workers : total (λ (v : SeatView). v.split) views ≡ total (λ (v : SeatView). v.joined) views + total (λ (v : SeatView). is_worker v.kind) views
  pub most : groups ≤ 250

-- ---- lists

module _ {A : Type 0} (P : A → Type 0) where
  all_at : (l : List A) → All P l → (j : ℕ) (a : A) → get_elem? l j ≡ some a → P a
  all_at [] h j a e = absurd (some-ne-none a (sym e))
  all_at (x ∷ xs) h zero a e = subst P (some-injective x a e) (h 0 x (omega arith))
  all_at (x ∷ xs) h (suc j) a e = all_at xs (λ k d l. h (suc k) d (omega (arith, l))) j a e

  at_all : (l : List A) → ((j : ℕ) (a : A) → get_elem? l j ≡ some a → P a) → All P l
  at_all [] h k d l = absurd (omega (arith, l))
  at_all (x ∷ xs) h zero d l = h 0 x refl
  at_all (x ∷ xs) h (suc k) d l = at_all xs (λ j a e. h (suc j) a e) k d (omega (arith, l))

-- the sum over all lists
total-numbers : (f : ℕ → ℕ) (views : List SeatView) → total f (all_numbers views) ≡ total (λ (v : SeatView). total f v.list) views
total-numbers f [] = refl
total-numbers f (v ∷ views) = omega (arith, total-append f v.list (all_numbers views), total-numbers f views)

-- ---- one view is collecting

spent_kind : (k : SeatKind) → is_collecting k ≡ 0 → is_worker k ≡ 0 → k ≡ Spent
spent_kind Collecting e f = absurd (omega (arith, e))
spent_kind Worker e f = absurd (omega (arith, f))
spent_kind Spent e f = refl

pub fit_split : (k : SeatKind) (g : ℕ) (v : SeatView) → FitsAs k g v → v.split ≤ 64 * is_collecting k
fit_split Collecting g v f = omega (arith, f.most)
fit_split Worker g v f = omega (arith, f.no_split)
fit_split Spent g v f = omega (arith, f.no_split)

fit_joined : (k : SeatKind) (g : ℕ) (v : SeatView) → FitsAs k g v → v.joined ≤ 64 * is_collecting k
fit_joined Collecting g v f = omega (arith, f.joined_split, f.most)
fit_joined Worker g v f = omega (arith, f.no_joined)
fit_joined Spent g v f = omega (arith, f.no_joined)

-- the number and the view that is collecting
pub record Collector (views : List SeatView) : Type 0 where
  pub id : ℕ
  pub v : SeatView
  pub here : get_elem? views id ≡ some v
  pub is : v.kind ≡ Collecting

collector : (views : List SeatView) → count_collecting views ≡ 1 → Collector views
collector [] e = absurd (omega (arith, e))
collector (v ∷ views) e = by v.kind refl (λ none. later (collector views (omega (arith, e, none))))
  where
    later : Collector views → Collector (v ∷ views)
    later c = record { id = suc c.id; v = c.v; here = c.here; is = c.is }

    by : (k : SeatKind) → v.kind ≡ k → (is_collecting v.kind ≡ 0 → Collector (v ∷ views)) → Collector (v ∷ views)
    by Collecting is rest = record { id = 0; v = v; here = refl; is = is }
    by Worker is rest = rest (ap is_collecting is)
    by Spent is rest = rest (ap is_collecting is)

module _ (groups : ℕ) (views : List SeatView) (fit : (j : ℕ) (v : SeatView) → get_elem? views j ≡ some v → FitsAs v.kind groups v)
    (one : count_collecting views ≡ 1) (id : ℕ) (v : SeatView) (here : get_elem? views id ≡ some v) (is : v.kind ≡ Collecting) where
  pub others_not : (j : ℕ) (u : SeatView) → j ≢ id → get_elem? views j ≡ some u → is_collecting u.kind ≡ 0
  others_not j u n e = omega (arith, terms_le (λ (u : SeatView). is_collecting u.kind) views id j v u n here e, one, ap is_collecting is)

  pub rest_none : (f : SeatView → ℕ) → f spent ≡ 0 → ((j : ℕ) (u : SeatView) → j ≢ id → get_elem? views j ≡ some u → f u ≡ 0) → total f views ≡ f v
  rest_none f z n =
      let rest = total-le f (λ _. 0) (set views id spent) (λ j u e. by j u (at_set views id j spent u e)) in
      omega (arith, rest, total-none (set views id spent), total-set f views id v spent here, z)
    where
      by : (j : ℕ) (u : SeatView) → ((j ≡ id) × (spent ≡ u)) ⊎ ((j ≢ id) × (get_elem? views j ≡ some u)) → f u ≤ 0
      by j u (inl t) = omega (arith, ap f t.1, z)
      by j u (inr t) = omega (arith, n j u t.0 t.1)

  pub all_split : total (λ (u : SeatView). u.split) views ≡ v.split
  all_split = rest_none (λ (u : SeatView). u.split) refl (λ j u n e. omega (arith, fit_split u.kind groups u (fit j u e), others_not j u n e))

  pub all_joined : total (λ (u : SeatView). u.joined) views ≡ v.joined
  all_joined = rest_none (λ (u : SeatView). u.joined) refl (λ j u n e. omega (arith, fit_joined u.kind groups u (fit j u e), others_not j u n e))

  pub others_spent : count_workers views ≡ 0 → (j : ℕ) (u : SeatView) → j ≢ id → get_elem? views j ≡ some u → u.kind ≡ Spent
  others_spent none j u n e = spent_kind u.kind (others_not j u n e) (omega (arith, term_le (λ (u : SeatView). is_worker u.kind) views j u e, none))

-- ---- from the one form to the other

fits : (k : SeatKind) (groups workers : ℕ) (v : SeatView) → IsOfKind k groups workers v → FitsAs k groups v
fits Collecting groups workers v h = record { few_past = h.few_past; joined_split = omega (arith, h.split_is); most = h.most; groups_are = h.groups_are }
fits Worker groups workers v h = h
fits Spent groups workers v h = h

collecting_split : (k : SeatKind) (groups workers : ℕ) (v : SeatView) → k ≡ Collecting → IsOfKind k groups workers v → v.split ≡ v.joined + workers
collecting_split Collecting groups workers v e h = h.split_is
collecting_split Worker groups workers v e h = absurd (omega (arith, ap is_worker e))
collecting_split Spent groups workers v e h = absurd (omega (arith, ap is_collecting e))

pub summed : (draws groups : ℕ) (views : List SeatView) → AreClaims draws groups views → AreSummed draws groups views
summed draws groups views h = record {
  once = λ f. sym (total-numbers f views) ∙ sums_below draws (all_numbers views) h.drawn_once f;
  fit = fit;
  one_collects = h.one_collects;
  workers = omega (arith, all_split groups views fit h.one_collects c.id c.v c.here c.is, all_joined groups views fit h.one_collects c.id c.v c.here c.is, split);
  most = h.few_groups;
}
  where
    kinds : (j : ℕ) (v : SeatView) → get_elem? views j ≡ some v → IsOfKind v.kind groups (count_workers views) v
    kinds j v e = all_at (λ (v : SeatView). IsOfKind v.kind groups (count_workers views) v) views h.kinds j v e

    fit : (j : ℕ) (v : SeatView) → get_elem? views j ≡ some v → FitsAs v.kind groups v
    fit j v e = fits v.kind groups (count_workers views) v (kinds j v e)

    c : Collector views
    c = collector views h.one_collects

    split : c.v.split ≡ c.v.joined + count_workers views
    split = collecting_split c.v.kind groups (count_workers views) c.v c.is (kinds c.id c.v c.here)

of_kind : (k : SeatKind) (groups workers : ℕ) (v : SeatView) → FitsAs k groups v → (k ≡ Collecting → v.split ≡ v.joined + workers) → IsOfKind k groups workers v
of_kind Collecting groups workers v h split = record { few_past = h.few_past; split_is = split refl; most = h.most; groups_are = h.groups_are }
of_kind Worker groups workers v h split = h
of_kind Spent groups workers v h split = h

pub claims : (draws groups : ℕ) (views : List SeatView) → AreSummed draws groups views → AreClaims draws groups views
claims draws groups views h = record {
  drawn_once = each_below draws (all_numbers views) (λ f. total-numbers f views ∙ h.once f);
  kinds = at_all (λ (v : SeatView). IsOfKind v.kind groups (count_workers views) v) views kinds;
  one_collects = h.one_collects;
  few_groups = h.most;
}
  where
    kinds : (j : ℕ) (v : SeatView) → get_elem? views j ≡ some v → IsOfKind v.kind groups (count_workers views) v
    kinds j v e = of_kind v.kind groups (count_workers views) v (h.fit j v e)
        (λ is. omega (arith, all_split groups views h.fit h.one_collects j v e is, all_joined groups views h.fit h.one_collects j v e is, h.workers))
