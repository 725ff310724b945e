-- Each step on the table keeps the rule.
use Rattle.std.proofs.Common.{◌≡◌, ℕ, zero, suc, ◌+◌, ◌%◌, ◌^◌, ◌<◌, ◌≤◌, List, [], ◌∷◌, length, set, sym, refl, ap, ◌∙◌, subst, ◌++◌, arith, slice_index, slice_set}
use Rattle.std.specs.List.{All}
use Rattle.std.proofs.lemmas.List.{get_or-set_same, get_or-set_other, length-set}
use Rattle.std.proofs.Math.Nat.{mod-eq_of_lt}
use mathlib.Core.Option.{Option, some, some-injective, some-ne-none}
use lib.ListN.{get_elem?}
use Rattle.atomic_table.specs.Table.{State, Me, Allows, Splits, Joins, Final, Seen, keeps, opening}
use Rattle.stg_crew.specs.declared.view.SeatView.{SeatView}
use Rattle.stg_crew.specs.declared.kind.SeatKind.TheVariants.{Collecting, Worker}
use Rattle.stg_crew.specs.Claims.{collecting, worker, spent, AreGroups, AreClaims, IsClaims, HasEachBelow, drawn, with_groups, split_from, joined_to}
use Rattle.stg_crew.proofs.EachBelow.{each_below}
use Rattle.stg_crew.proofs.Steps.{first_holds, few_draws, older, draw_holds, split_holds, set_holds, join_holds, closed}
use Rattle.stg_crew.proofs.Summed.{AreSummed, summed, claims}
use Rattle.stg_crew.proofs.Sums.{below, set_else}

abbrev S : Type 0
S = Unit {0}

of_holds : (ws : List ℕ) (homes : List (Option S)) (views : List SeatView) (a b : ℕ) → length ws ≡ 2 → slice_index ws 0 ≡ a → slice_index ws 1 ≡ b → AreSummed a b views
    → IsClaims (record { words = ws; homes = homes; views = views })
of_holds ws homes views a b wide e f h = record { words = wide; claims = subst (λ x. AreClaims x (slice_index ws 1) views) (sym e) (subst (λ y. AreClaims a y views) (sym f) (claims a b views h)) }

-- the rule by sums, of the table's words
of_claims : (s : State S SeatView) → IsClaims s → AreSummed (slice_index s.words 0) (slice_index s.words 1) s.views
of_claims s h = summed (slice_index s.words 0) (slice_index s.words 1) s.views h.claims

pub opens : IsClaims (opening (0 ∷ 0 ∷ []) [] (collecting 0))
opens = record { words = refl; claims = claims 0 0 (collecting 0 ∷ []) first_holds }

pub draw_allowed : (slots id : ℕ) (me : Me S SeatView) → me.0.kind ≡ Worker → AreGroups me.0.groups me.0.list
    → Allows IsClaims slots id me 0 (λ n. (n + 1) % 2 ^ 64) (λ n after. (after.0 ≡ drawn n me.0) × (after.1 ≡ me.1) × (n < 2 ^ 32) × All (λ x. x < n) me.0.list)
draw_allowed slots id me is goes s h sized here fits =
    let n : ℕ = slice_index s.words 0 in
    let few : n ≤ 314 = few_draws n (slice_index s.words 1) s.views (of_claims s h) in
    let small : n + 1 < 2 ^ 64 = omega (arith, few) in
    let next : (n + 1) % 2 ^ 64 ≡ n + 1 = mod-eq_of_lt small in
    let there : 0 < length s.words = omega (arith, h.words) in
    let more = draw_holds n (slice_index s.words 1) s.views (of_claims s h) id me.0 here is goes in
    let above : All (λ x. x < n) me.0.list = λ k d l. older n (slice_index s.words 1) s.views (of_claims s h) id me.0 here k d l in
    let lt : n < 2 ^ 32 = omega (arith, few) in (
      drawn n me.0,
      keeps,
      tt,
      of_holds (set s.words 0 ((n + 1) % 2 ^ 64)) s.homes (set s.views id (drawn n me.0)) (n + 1) (slice_index s.words 1)
          (length-set s.words 0 ((n + 1) % 2 ^ 64) ∙ h.words)
          (get_or-set_same s.words 0 ((n + 1) % 2 ^ 64) 0 there ∙ next)
          (get_or-set_other s.words 0 1 ((n + 1) % 2 ^ 64) 0 (λ e. omega (arith, e)))
          more,
      (refl, refl, lt, above),
    )

pub set_allowed : (slots id : ℕ) (me : Me S SeatView) (g : ℕ) → me.0 ≡ collecting 0 → g ≤ 250
    → Allows IsClaims slots id me 1 (λ n. (n + g) % 2 ^ 64) (λ n after. (after.0 ≡ with_groups g me.0) × (after.1 ≡ me.1))
set_allowed slots id me g is few s h sized here fits =
    let n : ℕ = slice_index s.words 1 in
    let done = set_holds (slice_index s.words 0) n s.views (of_claims s h) id me.0 here g (ap (λ (v : SeatView). v.kind) is) (ap (λ (v : SeatView). v.split) is) (ap (λ (v : SeatView). v.groups) is) (ap (λ (v : SeatView). v.list) is) few in
    let none : n ≡ 0 = done.0 in
    let small : n + g < 2 ^ 64 = omega (arith, few, none) in
    let next : (n + g) % 2 ^ 64 ≡ g = mod-eq_of_lt small ∙ omega (arith, none) in
    let there : 1 < length s.words = omega (arith, h.words) in (
      with_groups g me.0,
      keeps,
      tt,
      of_holds (set s.words 1 ((n + g) % 2 ^ 64)) s.homes (set s.views id (with_groups g me.0)) (slice_index s.words 0) g
          (length-set s.words 1 ((n + g) % 2 ^ 64) ∙ h.words)
          (get_or-set_other s.words 1 0 ((n + g) % 2 ^ 64) 0 (λ e. omega (arith, e)))
          (get_or-set_same s.words 1 ((n + g) % 2 ^ 64) 0 there ∙ next)
          done.1,
      (refl, refl),
    )

pub split_allowed : (id : ℕ) (v : SeatView) → v.kind ≡ Collecting → v.split < 64 → Splits {S = S} IsClaims id v (split_from v) (worker v.groups)
split_allowed id v is room s h here = record { words = h.words; claims = claims (slice_index s.words 0) (slice_index s.words 1) (set s.views id (split_from v) ++ worker v.groups ∷ []) (split_holds (slice_index s.words 0) (slice_index s.words 1) s.views (of_claims s h) id v here is room) }

pub join_allowed : (id : ℕ) (v : SeatView) (other : ℕ) (w : SeatView) → v.kind ≡ Collecting → w.kind ≡ Worker → Joins {S = S} IsClaims id v other w (joined_to v w) spent
join_allowed id v other w is drew s h here apart there = record { words = h.words; claims = claims (slice_index s.words 0) (slice_index s.words 1) (set (set s.views id (joined_to v w)) other spent) (join_holds (slice_index s.words 0) (slice_index s.words 1) s.views (of_claims s h) id v here other w apart (was there) is drew) }
  where
    was : get_elem? (slice_set s.views id (joined_to v w)) other ≡ some w → get_elem? s.views other ≡ some w
    was e = sym (set_else s.views id other (joined_to v w) apart) ∙ e

-- ---- the end

at_index : (l : List ℕ) (i a : ℕ) → get_elem? l i ≡ some a → slice_index l i ≡ a
at_index [] i a e = absurd (some-ne-none a (sym e))
at_index (x ∷ xs) zero a e = some-injective x a e
at_index (x ∷ xs) (suc i) a e = at_index xs i a e

module _ (id : ℕ) (v : SeatView) (ws : List ℕ) (xs : List S) (n : ℕ) (end : Final (Seen IsClaims id v) ws xs) (first : get_elem? ws 0 ≡ some n) (is : v.kind ≡ Collecting) where
  draws_is : slice_index end.0.words 0 ≡ n
  draws_is = at_index end.0.words 0 n (ap (λ l. get_elem? l 0) end.2 ∙ first)

  sums : AreSummed (slice_index end.0.words 0) (slice_index end.0.words 1) end.0.views
  sums = of_claims end.0 end.1.0

  pub few_at_end : n ≤ 314
  few_at_end = subst (λ x. x ≤ 314) draws_is (few_draws (slice_index end.0.words 0) (slice_index end.0.words 1) end.0.views sums)

  -- where all were taken in, the collecting list has each number that was drawn
  pub each_at_end : v.joined ≡ v.split → HasEachBelow n v.list
  each_at_end all = each_below n v.list
      (λ f. closed (slice_index end.0.words 0) (slice_index end.0.words 1) end.0.views sums id v end.1.1 is all f ∙ ap (below f) draws_is)
