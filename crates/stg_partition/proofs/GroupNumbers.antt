-- The numbers of groups tell which signals stand in one group.
use Rattle.std.proofs.Common.{◌≡◌, ◌&&◌, ℕ, ◌<◌, not, Bool, true, false, List, [], length, get_or, Contains, Option, Some, None, is_none, position, refl, sym, ap, ◌∙◌, subst, arith, eq-eqb, inl, inr}
use Rattle.std.specs.List.{list_any, position_or_len}
use Rattle.std.proofs.lemmas.Bool.{cases_Bool, cases_lt, cases_order, and_parts, and_from, eqb-true, lt-ltb, false≢true}
use Rattle.std.proofs.lemmas.List.Folds.{list_any_at}
use Rattle.std.proofs.lemmas.List.Quantifiers.{position-Some}
use Rattle.std.proofs.lemmas.List.Sums.{fails_before_first}
use Rattle.stg_net.specs.Net.{NetLists}
use Rattle.stg_net.specs.Component.{is_one_of}
use Rattle.stg_net.proofs.Members.{one_of-contained, contained-one_of}
use Rattle.stg_laws.specs.Groups.{is_driven_at}
use Rattle.stg_laws.specs.PlainGroups.{Group}
use Rattle.stg_laws.proofs.KnownSignals.{passing}
use Rattle.stg_laws.proofs.SignalConflicts.{driven_there}
use Rattle.stg_partition.specs.Partition.{stands_in, stand_together, stand_apart, is_missing, AreWhole, IsLeastMissing}
use Rattle.stg_partition.specs.inner.Naming.{AreNamedGroups}
use Rattle.stg_partition.specs.inner.Numbers.{group_number, AreNumbers, is_unnumbered, IsFirstUnnumbered, AreAllNumbered, are_same_numbers}

abbrev pub no_group : Group
no_group = record { own = []; known = [] }

module _ {X : Type 0} (p : X → Bool) (xs : List X) where
  -- what a test finds has a position
  pub any-position : list_any p xs ≡ true → (k : ℕ) × (position p xs ≡ Some k)
  any-position e =
      let f = passing p xs e in
      elim (cases_lt (position_or_len p xs) (length xs)) [
        | inl l ↦ (position_or_len p xs, rw (lt-ltb (position_or_len p xs) (length xs) l) refl)
        | inr past ↦ absurd (false≢true (sym (fails_before_first p xs f.at f.item (omega (arith, f.inside, past))) ∙ ap p (f.item_is f.item) ∙ f.passes))
      ]

  -- and what has a position is found
  position-any : (k : ℕ) (d : X) → position p xs ≡ Some k → list_any p xs ≡ true
  position-any k d e = let f = position-Some p xs k d e in list_any_at p xs k d f.0 f.1

  pub any-is_none : (d : X) → not (list_any p xs) ≡ is_none (position p xs)
  any-is_none d = elim (cases_Bool (list_any p xs)) [
    | inl e ↦ let k = any-position e in ap not e ∙ sym (ap (λ (o : Option ℕ). is_none o) k.1)
    | inr e ↦ ap not e ∙ go d (position p xs) refl e
  ]
    where
      go : (d : X) (o : Option ℕ) → position p xs ≡ o → list_any p xs ≡ false → true ≡ is_none (position p xs)
      go d None f e = sym (ap (λ (q : Option ℕ). is_none q) f)
      go d (Some k) f e = absurd (false≢true (sym e ∙ position-any k d f))

-- the group of a signal's number has the signal
pub number_stands : (groups : List Group) (s k : ℕ) → group_number groups s ≡ Some k → (k < length groups) × Contains (get_or groups k no_group).own s
number_stands groups s k e =
    let f = position-Some (λ (group : Group). is_one_of group.own s) groups k no_group e in
    (f.0, contained-one_of (get_or groups k no_group).own s f.1)

-- a signal that stands in a group has a number
pub stands_number : (groups : List Group) (s : ℕ) → stands_in groups s ≡ true → (k : ℕ) × (group_number groups s ≡ Some k)
stands_number groups s e = any-position (λ (group : Group). is_one_of group.own s) groups e

pub stands_at : (groups : List Group) (s k : ℕ) → k < length groups → Contains (get_or groups k no_group).own s → stands_in groups s ≡ true
stands_at groups s k inside has = list_any_at (λ (group : Group). is_one_of group.own s) groups k no_group inside (one_of-contained (get_or groups k no_group).own s has)

-- a signal stands in one group alone
pub number_is : (n : NetLists) (groups : List Group) (s k : ℕ) → AreNamedGroups n groups → k < length groups → Contains (get_or groups k no_group).own s → group_number groups s ≡ Some k
number_is n groups s k named inside has =
    let j = stands_number groups s (stands_at groups s k inside has) in
    let there = number_stands groups s j.0 j.1 in
    elim (cases_order j.0 k) [
      | inl same ↦ j.1 ∙ ap Some same
      | inr o ↦ elim o [
        | inl l ↦ absurd (named.apart j.0 k no_group l inside s there.1 has)
        | inr l ↦ absurd (named.apart k j.0 no_group l there.0 s has there.1)
      ]
    ]

pub same_itself : (o : Option ℕ) → are_same_numbers o o ≡ true
same_itself None = refl
same_itself (Some k) = eq-eqb k k refl

pub same_true : (o q : Option ℕ) → are_same_numbers o q ≡ true → o ≡ q
same_true None None e = refl
same_true None (Some k) e = absurd (false≢true e)
same_true (Some j) None e = absurd (false≢true e)
same_true (Some j) (Some k) e = ap Some (eqb-true j k e)

pub differ_turn : (o q : Option ℕ) → are_same_numbers o q ≡ false → are_same_numbers q o ≡ false
differ_turn o q differ = elim (cases_Bool (are_same_numbers q o)) [
  | inr e ↦ e
  | inl e ↦ absurd (false≢true (sym differ ∙ ap (are_same_numbers o) (same_true q o e) ∙ same_itself o))
]

-- signals that stand in groups of different numbers are apart
pub differ_apart : (n : NetLists) (groups : List Group) (x y : ℕ) → AreNamedGroups n groups → stands_in groups x ≡ true → stands_in groups y ≡ true → are_same_numbers (group_number groups x) (group_number groups y) ≡ false → stand_apart groups x y ≡ true
differ_apart n groups x y named x_stands y_stands differ = elim (cases_Bool (stand_together groups x y)) [
  | inr e ↦ rw (x_stands, y_stands, e) refl
  | inl e ↦
      let test : Group → Bool = λ group. is_one_of group.own x && is_one_of group.own y in
      let f = passing test groups e in
      let both = and_parts (is_one_of f.item.own x) (is_one_of f.item.own y) f.passes in
      let P : Group → Type 0 = λ group. Contains group.own x in
      let Q : Group → Type 0 = λ group. Contains group.own y in
      let one = number_is n groups x f.at named f.inside (subst P (sym (f.item_is no_group)) (contained-one_of f.item.own x both.0)) in
      let two = number_is n groups y f.at named f.inside (subst Q (sym (f.item_is no_group)) (contained-one_of f.item.own y both.1)) in
      absurd (false≢true (sym differ ∙ ap (are_same_numbers (group_number groups x)) (two ∙ sym one) ∙ same_itself (group_number groups x)))
]

-- and the other way round
pub apart_differ : (groups : List Group) (x y : ℕ) → stand_apart groups x y ≡ true → are_same_numbers (group_number groups x) (group_number groups y) ≡ false
apart_differ groups x y apart = elim (cases_Bool (are_same_numbers (group_number groups x) (group_number groups y))) [
  | inr e ↦ e
  | inl e ↦
      let outer = and_parts (stands_in groups x && stands_in groups y) (not (stand_together groups x y)) apart in
      let inner = and_parts (stands_in groups x) (stands_in groups y) outer.0 in
      let j = stands_number groups x inner.0 in
      let x_there = number_stands groups x j.0 j.1 in
      let y_there = number_stands groups y j.0 (sym (same_true (group_number groups x) (group_number groups y) e) ∙ j.1) in
      let group = get_or groups j.0 no_group in
      let together : stand_together groups x y ≡ true =
      list_any_at (λ (g : Group). is_one_of g.own x && is_one_of g.own y) groups j.0 no_group x_there.0 (and_from (is_one_of group.own x) (is_one_of group.own y) (one_of-contained group.own x x_there.1) (one_of-contained group.own y y_there.1)) in
      absurd (false≢true (rw together at outer.1))
]

-- a signal without a number is missing
pub unnumbered_missing : (n : NetLists) (groups : List Group) (numbers : List (Option ℕ)) (s : ℕ) → AreNumbers n groups numbers → s < length n.signals → is_unnumbered n numbers s ≡ is_missing n groups s
unnumbered_missing n groups numbers s are there =
    ap (λ (o : Option ℕ). is_driven_at n.signals s && is_none o) (are.each s there)
    ∙ sym (ap (λ b. is_driven_at n.signals s && b) (any-is_none (λ (group : Group). is_one_of group.own s) groups no_group))

-- a missing signal is one of the net
pub missing_there : (n : NetLists) (groups : List Group) (s : ℕ) → is_missing n groups s ≡ true → s < length n.signals
missing_there n groups s missing = driven_there n s (and_parts (is_driven_at n.signals s) (not (stands_in groups s)) missing).0

-- the first without a number is the least that is missing
pub first_least_missing : (n : NetLists) (groups : List Group) (numbers : List (Option ℕ)) (s : ℕ) → AreNumbers n groups numbers → IsFirstUnnumbered n numbers s → IsLeastMissing n groups s
first_least_missing n groups numbers s are is = record {
  missing = sym (unnumbered_missing n groups numbers s are is.there) ∙ is.unnumbered;
  least = λ r missing. elim (cases_lt r s) [
    | inr up ↦ up
    | inl low ↦ absurd (false≢true (sym (is.first r low) ∙ unnumbered_missing n groups numbers r are (missing_there n groups r missing) ∙ missing))
  ];
}

pub numbered_whole : (n : NetLists) (groups : List Group) (numbers : List (Option ℕ)) → AreNumbers n groups numbers → AreAllNumbered n numbers → AreWhole n groups
numbered_whole n groups numbers are all s missing =
    let there = missing_there n groups s missing in
    false≢true (sym (all s there) ∙ unnumbered_missing n groups numbers s are there ∙ missing)

-- where none is missing, each output and internal signal stands in a group
pub whole_stands : (n : NetLists) (groups : List Group) (s : ℕ) → AreWhole n groups → is_driven_at n.signals s ≡ true → stands_in groups s ≡ true
whole_stands n groups s whole driven = elim (cases_Bool (stands_in groups s)) [
  | inl e ↦ e
  | inr e ↦ absurd (whole s (rw (driven, e) refl))
]

-- what stands in a group is an output or internal signal
pub stands_driven : (n : NetLists) (groups : List Group) (s : ℕ) → AreNamedGroups n groups → stands_in groups s ≡ true → is_driven_at n.signals s ≡ true
stands_driven n groups s named e =
    let k = stands_number groups s e in
    let there = number_stands groups s k.0 k.1 in
    let c = there.1 in
    let P : ℕ → Type 0 = λ r. is_driven_at n.signals r ≡ true in
    subst P c.2 ((named.feasible k.0 no_group there.0).driven c.0 s c.1)
