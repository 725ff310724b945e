-- Parts in the slots of their groups.
use Rattle.std.proofs.Common.{◌≡◌, ℕ, zero, suc, ◌<◌, ◌≤◌, Option, None, Some, IsSome, List, [], ◌∷◌, ◌++◌, length, map, replicate, slice_set, get_or, refl, sym, ap, ◌∙◌, subst, arith}
use Rattle.std.specs.List.{All}
use Rattle.std.proofs.lemmas.List.{get_or-set_same, get_or-set_other, length-set, length-map, get_or-map}
use Rattle.std.proofs.lemmas.Option.{none-some, same_Some}
use mathlib.Core.Logic.{dite}
use native.Mathlib.Decide.{ℕ_discrete}
use Rattle.stg_net.specs.Net.{NetLists}
use Rattle.stg_laws.specs.PlainGroups.{Group}
use Rattle.stg_derive.specs.declared.part.Part.{Part}
use Rattle.stg_crew.specs.declared.worker.Drawn.{Drawn}
use Rattle.stg_crew.specs.Claims.{times, AreGroups}
use Rattle.stg_crew.specs.Drawing.{IsDrawnPart, groups_of}
use Rattle.stg_crew.specs.Parts.{IsPartOf, AreDerived, AreExactlyWorn, no_part, group_in}
use Rattle.stg_crew.specs.inner.Slots.{slot_at, placed}
use Rattle.stg_crew.proofs.EachBelow.{only_other}

-- each number of the list of groups is below
pub drawn_below : (n : ℕ) (all : List Drawn) → AreGroups n (groups_of all) → All (λ (d : Drawn). d.group < n) all
drawn_below n [] h k d l = absurd (omega (arith, l))
drawn_below n (x ∷ xs) h zero d l = h 0 0 (omega arith)
drawn_below n (x ∷ xs) h (suc k) d l = drawn_below n xs (λ i e m. h (suc i) e (omega (arith, m))) k d (omega (arith, l))

pub placed-length : (slots : List (Option Part)) (all : List Drawn) → length (placed slots all) ≡ length slots
placed-length slots [] = refl
placed-length slots (d ∷ all) = placed-length (slice_set slots d.group (Some d.part)) all ∙ length-set slots d.group (Some d.part)

abbrev IsFull : List (Option Part) → ℕ → Type 0
IsFull slots k = IsSome (slot_at slots k)

set_full : (slots : List (Option Part)) (i k : ℕ) (part : Part) → k < length slots → IsFull slots k → IsFull (slice_set slots i (Some part)) k
set_full slots i k part there h = dite (ℕ_discrete k i)
    (λ e. let here : i < length slots = omega (arith, there, e) in
    subst (IsFull (slice_set slots i (Some part))) (sym e) (subst (λ (o : Option Part). IsSome o) (sym (get_or-set_same slots i (Some part) None here)) refl))
    (λ differ. subst (λ (o : Option Part). IsSome o) (sym (get_or-set_other slots i k (Some part) None differ)) h)

-- a full slot stays full
placed_keeps : (slots : List (Option Part)) (all : List Drawn) (k : ℕ) → k < length slots → IsFull slots k → IsFull (placed slots all) k
placed_keeps slots [] k there h = h
placed_keeps slots (d ∷ all) k there h =
    placed_keeps (slice_set slots d.group (Some d.part)) all k (omega (arith, there, length-set slots d.group (Some d.part))) (set_full slots d.group k d.part there h)

-- the slot of a group that was drawn is full
pub placed_full : (slots : List (Option Part)) (all : List Drawn) (k : ℕ) → k < length slots → 1 ≤ times k (groups_of all) → IsFull (placed slots all) k
placed_full slots [] k there h = absurd (omega (arith, h))
placed_full slots (d ∷ all) k there h =
    let after = slice_set slots d.group (Some d.part) in
    let still : k < length after = omega (arith, there, length-set slots d.group (Some d.part)) in
    dite (ℕ_discrete d.group k)
    (λ e. let here : d.group < length slots = omega (arith, there, e) in
    let full : IsFull after d.group = subst (λ (o : Option Part). IsSome o) (sym (get_or-set_same slots d.group (Some d.part) None here)) refl in
    placed_keeps after all k still (subst (IsFull after) e full))
    (λ differ. placed_full after all k still (omega (arith, h, only_other k d.group differ)))

-- each part stands in the slot of its group
abbrev pub AreRight : NetLists → List Group → List (Option Part) → Type 0
AreRight n groups slots = (k : ℕ) (part : Part) → slot_at slots k ≡ Some part → IsPartOf n (group_in groups k) part

set_right : (n : NetLists) (groups : List Group) (slots : List (Option Part)) (i : ℕ) (part : Part) → i < length slots → IsPartOf n (group_in groups i) part → AreRight n groups slots → AreRight n groups (slice_set slots i (Some part))
set_right n groups slots i part here is right k other e = dite (ℕ_discrete k i)
    (λ same. let at : slot_at (slice_set slots i (Some part)) k ≡ Some part = ap (slot_at (slice_set slots i (Some part))) same ∙ get_or-set_same slots i (Some part) None here in
    subst (IsPartOf n (group_in groups k)) (same_Some part other (sym at ∙ e)) (subst (λ j. IsPartOf n (group_in groups j) part) (sym same) is))
    (λ differ. right k other (sym (get_or-set_other slots i k (Some part) None differ) ∙ e))

pub placed_right : (n : NetLists) (groups : List Group) (slots : List (Option Part)) (all : List Drawn) → length slots ≡ length groups → All (IsDrawnPart n groups) all → AreRight n groups slots → AreRight n groups (placed slots all)
placed_right n groups slots [] same h right = right
placed_right n groups slots (d ∷ all) same h right =
    let first : IsDrawnPart n groups d = h 0 d (omega arith) in
    placed_right n groups (slice_set slots d.group (Some d.part)) all (length-set slots d.group (Some d.part) ∙ same) (λ k e l. h (suc k) e (omega (arith, l)))
    (set_right n groups slots d.group d.part (omega (arith, first.there, same)) first.part right)

-- nothing stands in an empty slot
empty_at : (count k : ℕ) → slot_at (replicate count None) k ≡ None
empty_at zero k = refl
empty_at (suc count) zero = refl
empty_at (suc count) (suc k) = empty_at count k

pub empty_right : (n : NetLists) (groups : List Group) (count : ℕ) → AreRight n groups (replicate count None)
empty_right n groups count k part e = absurd (none-some part (sym (empty_at count k) ∙ e))

-- parts that go out of their slots are those of the groups
module _ (n : NetLists) (groups : List Group) (slots : List (Option Part)) (parts : List Part) (out : map (λ (part : Part). Some part) parts ≡ slots) (right : AreRight n groups slots) where
  pub part_out : (k : ℕ) (d : Part) → k < length parts → IsPartOf n (group_in groups k) (get_or parts k d)
  part_out k d there = right k (get_or parts k d) (ap (λ s. slot_at s k) (sym out) ∙ get_or-map (λ (part : Part). Some part) parts k d None there)

  pub as_many_out : length parts ≡ length slots
  as_many_out = omega (arith, length-map parts (λ (part : Part). Some part), ap (λ (s : List (Option Part)). length s) out)

  pub all_out : (P : Part → Type 0) → ((group : Group) (part : Part) → IsPartOf n group part → P part) → All P parts
  all_out P h k d there = h (group_in groups k) (get_or parts k d) (part_out k d there)

  pub derived_out : length slots ≡ length groups → AreDerived n groups parts
  derived_out same = record { as_many = as_many_out ∙ same; each = λ i there. (part_out i no_part (omega (arith, there, same, as_many_out))).derived }

  -- and they have the wear of these
  pub worn_out : length slots ≡ length groups → AreExactlyWorn n groups parts
  worn_out same i there = (part_out i no_part (omega (arith, there, same, as_many_out))).worn

-- a part that goes out stands last
pub goes_out : (parts : List Part) (part : Part) (slot : Option Part) (rest : List (Option Part)) → slot ≡ Some part → map (λ (part : Part). Some part) (parts ++ part ∷ []) ++ rest ≡ map (λ (part : Part). Some part) parts ++ slot ∷ rest
goes_out [] part slot rest e = ap (λ o. o ∷ rest) (sym e)
goes_out (p ∷ parts) part slot rest e = ap (λ s. Some p ∷ s) (goes_out parts part slot rest e)

pub All-rest : {A : Type 0} (P : A → Type 0) (x : A) (xs : List A) → All P (x ∷ xs) → All P xs
All-rest P x xs h k d l = h (suc k) d (omega (arith, l))
