-- What the workers whose seats were taken in have drawn.
use Rattle.std.proofs.Common.{◌≡◌, ℕ, zero, suc, ◌+◌, ◌<◌, ◌≤◌, ◌≢◌, Bool, true, false, cond, nat_le, Ok, Result, IfOk, IsSome, Option, None, get_or, List, [], ◌∷◌, ◌++◌, length, length-append, replicate, refl, sym, ap, ◌∙◌, subst, arith}
use Rattle.std.specs.List.{All}
use Rattle.std.proofs.lemmas.List.{map-append, length-replicate, get_or_default}
use Rattle.std.proofs.lemmas.List.Elements.{All-append}
use Rattle.std.proofs.lemmas.Bool.{leb-true, leb-false}
use Rattle.stg_net.specs.Net.{NetLists}
use Rattle.stg_net.specs.declared.no_memory.NoMemory.{NoMemory}
use Rattle.stg_laws.specs.PlainGroups.{Group}
use Rattle.stg_derive.specs.declared.part.Part.{Part}
use Rattle.stg_crew.specs.declared.crew.Worker.{Worker as ThisWorker}
use Rattle.stg_crew.specs.declared.kind.SeatKind.TheVariants.{Collecting}
use Rattle.stg_crew.specs.declared.view.SeatView.{SeatView}
use Rattle.stg_crew.specs.declared.worker.Drawn.{Drawn}
use Rattle.stg_crew.specs.Claims.{total, times, count_past, view, joined_to, AreGroups, HasEachBelow}
use Rattle.stg_crew.specs.Drawing.{IsDrawnPart, HasDrawn, groups_of}
use Rattle.stg_crew.specs.inner.Crew.{AreTakenIn, HasDrawnParts}
use Rattle.stg_crew.specs.inner.Slots.{placed}
use Rattle.stg_crew.proofs.EachBelow.{only, only_other, sums_below}
use Rattle.stg_crew.proofs.Placing.{AreRight, placed_full, placed_right, placed-length, empty_right}
use Rattle.stg_crew.proofs.Sums.{below, past, total-append, past-yes, past-no, past-le}

-- nothing is taken in yet
pub none_taken : (workers : List ThisWorker) (first : List (Option Part)) (split groups : ℕ) → AreTakenIn workers first first 0 (view Collecting [] split 0 groups)
none_taken workers first split groups = record {
  all = [];
  parts = λ n groups h k d l. absurd (omega (arith, l));
  slots_are = refl;
  are_groups = λ k d l. absurd (omega (arith, l));
  overs = [];
  past = refl;
  length_is = refl;
  sums = λ f. refl;
  kind_is = refl;
  joined_is = refl;
}

-- the parts of two lists, one after the other
placed-append : (slots : List (Option Part)) (a b : List Drawn) → placed slots (a ++ b) ≡ placed (placed slots a) b
placed-append slots [] b = refl
placed-append slots (d ∷ a) b = placed-append _ a b

groups-append : (a b : List Drawn) → groups_of (a ++ b) ≡ groups_of a ++ groups_of b
groups-append a b = map-append (λ (d : Drawn). d.group) a b

-- one more worker
pub more_taken : (workers : List ThisWorker) (first slots : List (Option Part)) (count : ℕ) (v : SeatView) (w : ThisWorker) (more : List Drawn) (u : SeatView)
    → AreTakenIn workers first slots count v → w.drawn ≡ Ok more → HasDrawn (length first) more u.list
    → ((n : NetLists) (groups : List Group) → All (HasDrawnParts n groups) workers → HasDrawnParts n groups w)
    → AreTakenIn workers first (placed slots more) (count + 1) (joined_to v u)
more_taken workers first slots count v w more u t done h parts = record {
  all = t.all ++ more;
  parts = λ n groups every. All-append (IsDrawnPart n groups) t.all more (t.parts n groups every)
      (subst (λ (r : Result (List Drawn) NoMemory). IfOk r (All (IsDrawnPart n groups))) done (parts n groups every));
  slots_are = ap (λ s. placed s more) t.slots_are ∙ sym (placed-append first t.all more);
  are_groups = subst (AreGroups (length first)) (sym (groups-append t.all more)) (All-append (λ k. k < length first) (groups_of t.all) (groups_of more) t.are_groups h.are_groups);
  overs = t.overs ++ h.last ∷ [];
  past = omega (arith, total-append (past (length first)) t.overs (h.last ∷ []), t.past, past-yes (length first) h.last h.past);
  length_is = omega (arith, length-append t.overs (h.last ∷ []), t.length_is);
  sums = λ f. omega (arith, total-append f v.list u.list, t.sums f, ap (total f) h.list_is, total-append f (groups_of more) (h.last ∷ []), ap (total f) (groups-append t.all more), total-append f (groups_of t.all) (groups_of more), total-append f t.overs (h.last ∷ []));
  kind_is = t.kind_is;
  joined_is = omega (arith, t.joined_is);
}

none_past : (g : ℕ) (xs : List ℕ) → AreGroups g xs → count_past g xs ≡ 0
none_past g [] h = refl
none_past g (x ∷ xs) h = omega (arith, past-no g x (h 0 0 (omega arith)), none_past g xs (λ k d l. h (suc k) d (omega (arith, l))))

-- how many numbers below n are past the groups
below_past : (g n : ℕ) → (n ≤ g → below (past g) n ≡ 0) × (g ≤ n → g + below (past g) n ≡ n)
below_past g zero = (λ h. refl, λ h. omega (arith, h))
below_past g (suc n) = (λ h. omega (arith, (below_past g n).0 (omega (arith, h)), past-no g n (omega (arith, h))), λ h. by (nat_le g n) refl h (below_past g n))
  where
    by : (b : Bool) → nat_le g n ≡ b → g ≤ suc n → (n ≤ g → below (past g) n ≡ 0) × (g ≤ n → g + below (past g) n ≡ n) → g + (below (past g) n + cond b 1 0) ≡ suc n
    by true e h before = omega (arith, before.1 (leb-true g n e))
    by false e h before = let lt : n < g = leb-false g n e in omega (arith, before.0 (omega (arith, lt)), lt, h)

past_le : (g : ℕ) (xs : List ℕ) → count_past g xs ≤ length xs
past_le g [] = omega arith
past_le g (x ∷ xs) = omega (arith, past-le (nat_le g x), past_le g xs)

-- a number past the groups is none of theirs
no_over : (g k : ℕ) (xs : List ℕ) → k < g → count_past g xs ≡ length xs → total (only k) xs ≡ 0
no_over g k [] lt e = refl
no_over g k (x ∷ xs) lt e = by (nat_le g x) refl (past_le g xs) (no_over g k xs lt) e
  where
    by : (b : Bool) → nat_le g x ≡ b → count_past g xs ≤ length xs → (count_past g xs ≡ length xs → total (only k) xs ≡ 0) → cond b 1 0 + count_past g xs ≡ suc (length xs) → only k x + total (only k) xs ≡ 0
    by true p le rest q =
        let differ : x ≢ k = λ s. omega (arith, leb-true g x p, lt, s) in
        omega (arith, only_other k x differ, rest (omega (arith, q)))
    by false p le rest q = absurd (omega (arith, le, q))

module _ (workers : List ThisWorker) (first slots : List (Option Part)) (count draws : ℕ) (v : SeatView)
    (t : AreTakenIn workers first slots count v) (some : 0 < count) (each : HasEachBelow draws v.list) where
  -- of all draws, one for each worker is past the groups
  pub draws_are : draws ≡ length first + count
  draws_are =
      let g = length first in
      let sum : below (past g) draws ≡ count = omega (arith, sums_below draws v.list each (past g), t.sums (past g), none_past g (groups_of t.all) t.are_groups, t.past) in
      by (nat_le g draws) refl sum
    where
      by : (b : Bool) → nat_le (length first) draws ≡ b → below (past (length first)) draws ≡ count → draws ≡ length first + count
      by true e sum = omega (arith, (below_past (length first) draws).1 (leb-true (length first) draws e), sum)
      by false e sum = let lt : draws < length first = leb-false (length first) draws e in absurd (omega (arith, (below_past (length first) draws).0 (omega (arith, lt)), sum, some))

  -- each group was drawn once
  pub drawn_once : (k : ℕ) → k < length first → times k (groups_of t.all) ≡ 1
  drawn_once k lt =
      omega (arith, each.once k (omega (arith, lt, draws_are)), t.sums (only k), no_over (length first) k t.overs lt (t.past ∙ sym t.length_is))

  -- so no slot is empty
  pub all_full : All IsSome slots
  all_full k d there =
      let same = placed-length first t.all in
      let low : k < length first = omega (arith, there, ap (λ (s : List (Option Part)). length s) t.slots_are, same) in
      let full : IsSome (get_or slots k None) = subst (λ (s : List (Option Part)). IsSome (get_or s k None)) (sym t.slots_are) (placed_full first t.all k low (omega (arith, drawn_once k low))) in
      subst (λ (o : Option Part). IsSome o) (get_or_default slots k None d there) full

-- the parts of a crew that began with empty slots are right
pub taken_right : (workers : List ThisWorker) (slots : List (Option Part)) (count : ℕ) (v : SeatView) (n : NetLists) (groups : List Group)
    → AreTakenIn workers (replicate (length groups) None) slots count v → All (HasDrawnParts n groups) workers → AreRight n groups slots
taken_right workers slots count v n groups t every =
    subst (AreRight n groups) (sym t.slots_are)
    (placed_right n groups (replicate (length groups) None) t.all (length-replicate (length groups) None) (t.parts n groups every) (empty_right n groups (length groups)))
