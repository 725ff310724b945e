-- The steps of a search for the greatest redundant dummy that is watched.
use Rattle.std.proofs.Common.{◌≡◌, ◌≢◌, ◌<◌, ◌≤◌, ◌∷◌, ℕ, suc, Bool, true, false, List, Option, Some, None, All, Contains, is_some, length, set, slice_index_or, refl, sym, ap, ◌∙◌, subst, inl, inr, arith}
use Rattle.std.specs.BinaryHeap.{IsUpperBound}
use Rattle.std.specs.List.Sorted.{IsPermutation}
use Rattle.std.specs.Option.{IfSome}
use Rattle.std.specs.Ordering.{nat_cmp}
use Rattle.std.proofs.lemmas.Bool.{cases_eq, false≢true}
use Rattle.std.proofs.lemmas.List.{get_or-set_same, get_or-set_other, length-set}
use Rattle.std.proofs.lemmas.List.Elements.{All-cons, All-tail}
use Rattle.std.proofs.lemmas.List.Sorted.{All-permutation, Contains-permutation, le_from_greatest}
use Rattle.stg_net.specs.Graph.{Graph}
use Rattle.stg_laws.specs.RedundantDummies.{IsRedundantDummy}
use Rattle.stg_contract.proofs.WatchSteps.{contained, contains_at}
use Rattle.stg_redundant.specs.FlaggedDummies.{IsFlagged, FlagsRedundant, DropsUseful}
use Rattle.stg_redundant.specs.inner.Flagging.{AreWaiting}

-- the flag of t once it is set
flag_set : (flags : List Bool) (t : ℕ) (b : Bool) → t < length flags → slice_index_or (set flags t b) t false ≡ b
flag_set flags t b low = get_or-set_same flags t b false low

-- and that of another number
flag_other : (flags : List Bool) (t u : ℕ) (b : Bool) → u ≢ t
    → slice_index_or (set flags t b) u false ≡ slice_index_or flags u false
flag_other flags t u b other = get_or-set_other flags t u b false other

-- a number that has no flag any more isn't t
still_other : (flags : List Bool) (t u : ℕ) → t < length flags → IsFlagged (set flags t false) u → u ≢ t
still_other flags t u low flagged e = false≢true (sym (ap (λ k. slice_index_or (set flags t false) k false) e ∙ flag_set flags t false low) ∙ flagged)

-- the number that was taken out is no longer watched
pub waits_without : (flags : List Bool) (waiting rest : List ℕ) (t : ℕ) → AreWaiting flags waiting
    → IsPermutation waiting (t ∷ rest) → AreWaiting (set flags t false) rest
waits_without flags waiting rest t waits p =
    let below = All-permutation (λ k. k < length flags) waiting (t ∷ rest) p waits.below in
    let low = below 0 t (omega arith) in
    record {
      listed = λ u flagged.
          let other = still_other flags t u low flagged in
          elim (contained t u rest (Contains-permutation waiting (t ∷ rest) u p (waits.listed u (sym (flag_other flags t u false other) ∙ flagged)))) [
            | inl same ↦ absurd (other (sym same))
            | inr later ↦ later
          ];
      below = subst (λ n. All (λ k. k < n) rest) (sym (length-set flags t false)) (All-tail (λ k. k < length flags) t rest below);
    }

-- a number that is no redundant dummy may go
pub drops_one : (g : Graph) (old flags : List Bool) (t : ℕ) → DropsUseful g old flags → t < length flags
    → ¬ IsRedundantDummy g t → DropsUseful g old (set flags t false)
drops_one g old flags t drops low useful = record {
  as_long = length-set flags t false ∙ drops.as_long;
  only = λ u flagged. drops.only u (sym (flag_other flags t u false (still_other flags t u low flagged)) ∙ flagged);
  redundant = λ u flagged r.
      let other : u ≢ t = λ e. useful (subst (IsRedundantDummy g) e r) in
      flag_other flags t u false other ∙ drops.redundant u flagged r;
}

-- a number is added
pub waits_with : (flags : List Bool) (waiting more : List ℕ) (t : ℕ) → AreWaiting flags waiting → t < length flags
    → IsPermutation (t ∷ waiting) more → AreWaiting (set flags t true) more
waits_with flags waiting more t waits low p = record {
  listed = λ u flagged. Contains-permutation (t ∷ waiting) more u p (elim (cases_eq u t) [
    | inl same ↦ subst (Contains (t ∷ waiting)) (sym same) (0, omega arith, refl)
    | inr other ↦ let c = waits.listed u (sym (flag_other flags t u true other) ∙ flagged) in (suc c.0, omega (arith, c.1), c.2)
  ]);
  below = subst (λ n. All (λ k. k < n) more) (sym (length-set flags t true)) (All-permutation (λ k. k < length flags) (t ∷ waiting) more p (All-cons (λ k. k < length flags) t waiting low waits.below));
}

-- where t is the greatest that waits, no redundant dummy is greater
pub none_greater : (g : Graph) (old flags : List Bool) (waiting : List ℕ) (t : ℕ) → DropsUseful g old flags
    → AreWaiting flags waiting → IsUpperBound nat_cmp t waiting → FlagsRedundant g old → (u : ℕ)
    → IsRedundantDummy g u → u ≤ t
none_greater g old flags waiting t drops waits bound has u r =
    contains_at (λ y. y ≤ t) waiting u (le_from_greatest t waiting bound) (waits.listed u (drops.redundant u (has u r) r))

-- where nothing waits, no dummy is redundant
pub none_waits : (g : Graph) (old flags : List Bool) (waiting : List ℕ) → DropsUseful g old flags
    → AreWaiting flags waiting → length waiting ≤ 0 → FlagsRedundant g old → (u : ℕ) → ¬ IsRedundantDummy g u
none_waits g old flags waiting drops waits none has u r =
    let c = waits.listed u (drops.redundant u (has u r) r) in omega (arith, c.1, none)

-- what a value has that is there
pub record Taken (r : Option ℕ) (P : ℕ → Type 0) : Type 0 where
  pub value : ℕ
  pub is : r ≡ Some value
  pub has : P value

pub taken : (r : Option ℕ) (P : ℕ → Type 0) → is_some r ≡ true → IfSome r P → Taken r P
taken None P e h = absurd (false≢true e)
taken (Some x) P e h = record { value = x; is = refl; has = h }
