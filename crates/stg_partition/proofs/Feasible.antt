-- Groups that leave no signal out and split none in conflict are feasible, and the other way round.
use Rattle.std.proofs.Common.{◌≡◌, ◌<◌, ◌&&◌, ℕ, not, true, List, length, get_or, Any, Contains, sym, ap, ◌∙◌, subst, inl, inr}
use Rattle.std.proofs.lemmas.Bool.{cases_Bool, cases_order, and_parts, and_from, false≢true}
use Rattle.std.proofs.lemmas.List.{get_or_default}
use Rattle.std.proofs.lemmas.List.Folds.{list_any_at}
use Rattle.stg_net.specs.declared.arc.NetArc.{NetArc}
use Rattle.stg_net.specs.Net.{NetLists, IsNet}
use Rattle.stg_net.specs.Component.{is_one_of}
use Rattle.stg_net.proofs.Members.{one_of-contained}
use Rattle.stg_laws.specs.Groups.{is_driven_at, share_place, in_conflict}
use Rattle.stg_laws.specs.PlainGroups.{Group, AreFeasible}
use Rattle.stg_laws.proofs.SignalConflicts.{shared, taker, conflict_at}
use Rattle.stg_partition.specs.Partition.{stands_in, stand_together, AreWhole, IsSplit}
use Rattle.stg_partition.specs.inner.Naming.{AreNamedGroups}
use Rattle.stg_partition.specs.inner.Numbers.{group_number, are_same_numbers}
use Rattle.stg_partition.proofs.GroupNumbers.{no_group, number_stands, stands_number, stands_at, number_is, same_itself, same_true, differ_turn, differ_apart, whole_stands}

-- no two signals of different groups take from one place
abbrev pub AreUnsplit : NetLists → List Group → Type 0
AreUnsplit n groups = (x y p : ℕ) → ¬ IsSplit n groups x y p

stands_any : (groups : List Group) (s : ℕ) → stands_in groups s ≡ true → Any (λ (group : Group). Contains group.own s) groups
stands_any groups s e =
    let k = stands_number groups s e in
    let there = number_stands groups s k.0 k.1 in
    (k.0, get_or groups k.0 no_group, there.0, get_or_default groups k.0 (get_or groups k.0 no_group) no_group there.0, there.1)

together : (n : NetLists) (groups : List Group) (x y : ℕ) → AreNamedGroups n groups → AreWhole n groups → AreUnsplit n groups → in_conflict n x y ≡ true → are_same_numbers (group_number groups x) (group_number groups y) ≡ true
together n groups x y named whole unsplit conflict = elim (cases_Bool (are_same_numbers (group_number groups x) (group_number groups y))) [
  | inl same ↦ same
  | inr differ ↦
      let outer = and_parts (is_driven_at n.signals x && is_driven_at n.signals y) (share_place n x y) conflict in
      let driven = and_parts (is_driven_at n.signals x) (is_driven_at n.signals y) outer.0 in
      let x_stands = whole_stands n groups x whole driven.0 in
      let y_stands = whole_stands n groups y whole driven.1 in
      let at = shared n x y outer.1 in
      elim (cases_order x y) [
        | inl same ↦ absurd (false≢true (sym differ ∙ ap (λ s. are_same_numbers (group_number groups x) (group_number groups s)) (sym same) ∙ same_itself (group_number groups x)))
        | inr o ↦ elim o [
          | inl up ↦ absurd (unsplit x y at.place (record { ascends = up; apart = differ_apart n groups x y named x_stands y_stands differ; x_takes = at.x_takes; y_takes = at.y_takes }))
          | inr down ↦
              let turned = differ_turn (group_number groups x) (group_number groups y) differ in
              absurd (unsplit y x at.place (record { ascends = down; apart = differ_apart n groups y x named y_stands x_stands turned; x_takes = at.y_takes; y_takes = at.x_takes }))
        ]
      ]
]

pub unsplit_feasible : (n : NetLists) (groups : List Group) → AreNamedGroups n groups → AreWhole n groups → AreUnsplit n groups → AreFeasible n groups
unsplit_feasible n groups named whole unsplit = record {
  feasible = named.feasible;
  whole = λ s driven. stands_any groups s (whole_stands n groups s whole driven);
  apart = named.apart;
  together = λ x y conflict k d inside has.
      let P : Group → Type 0 = λ group. Contains group.own x in
      let Q : Group → Type 0 = λ group. Contains group.own y in
      let x_is = number_is n groups x k named inside (subst P (get_or_default groups k d no_group inside) has) in
      let same = same_true (group_number groups x) (group_number groups y) (together n groups x y named whole unsplit conflict) in
      let y_there = number_stands groups y k (sym same ∙ x_is) in
      subst Q (get_or_default groups k no_group d inside) y_there.1;
}

pub feasible_whole : (n : NetLists) (groups : List Group) → AreFeasible n groups → AreWhole n groups
feasible_whole n groups a s missing =
    let parts = and_parts (is_driven_at n.signals s) (not (stands_in groups s)) missing in
    let found = a.whole s parts.0 in
    let P : Group → Type 0 = λ group. Contains group.own s in
    let at = subst P (sym found.3 ∙ get_or_default groups found.0 found.1 no_group found.2) found.4 in
    false≢true (rw (stands_at groups s found.0 found.2 at) at parts.1)

pub feasible_unsplit : (n : NetLists) (groups : List Group) → IsNet n → AreFeasible n groups → AreUnsplit n groups
feasible_unsplit n groups net a x y p is =
    let outer = and_parts (stands_in groups x && stands_in groups y) (not (stand_together groups x y)) is.apart in
    let inner = and_parts (stands_in groups x) (stands_in groups y) outer.0 in
    let j = stands_number groups x inner.0 in
    let k = stands_number groups y inner.1 in
    let x_there = number_stands groups x j.0 j.1 in
    let y_there = number_stands groups y k.0 k.1 in
    let Driven : ℕ → Type 0 = λ s. is_driven_at n.signals s ≡ true in
    let x_in = x_there.1 in
    let y_in = y_there.1 in
    let x_driven = subst Driven x_in.2 ((a.feasible j.0 no_group x_there.0).driven x_in.0 x x_in.1) in
    let y_driven = subst Driven y_in.2 ((a.feasible k.0 no_group y_there.0).driven y_in.0 y y_in.1) in
    let t = taker n x p is.x_takes in
    let Inside : NetArc → Type 0 = λ arc. arc.place < length n.tokens in
    let place_there : p < length n.tokens = subst (λ q. q < length n.tokens) t.place_is (subst Inside (t.arc_is t.arc) (net.arcs t.at t.arc t.inside).place_there) in
    let conflict = conflict_at n x y p place_there x_driven y_driven is.x_takes is.y_takes in
    let y_too = a.together x y conflict j.0 no_group x_there.0 x_in in
    let group = get_or groups j.0 no_group in
    let both : stand_together groups x y ≡ true =
    list_any_at (λ (g : Group). is_one_of g.own x && is_one_of g.own y) groups j.0 no_group x_there.0 (and_from (is_one_of group.own x) (is_one_of group.own y) (one_of-contained group.own x x_in) (one_of-contained group.own y y_too)) in
    false≢true (rw both at outer.1)
