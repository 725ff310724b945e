-- What the search finds is the least split, and it finds one where there is one.
use Rattle.std.proofs.Common.{◌≡◌, ◌<◌, ◌≤◌, ◌&&◌, ℕ, zero, suc, not, true, false, List, [], ◌∷◌, length, get_or, Option, Some, None, IfSome, IsTrue, refl, sym, ap, ◌∙◌, subst, arith, inl, inr}
use Rattle.std.proofs.lemmas.Bool.{cases_Bool, cases_lt, and_parts, false≢true}
use Rattle.std.proofs.lemmas.Option.{same_Some}
use Rattle.stg_net.specs.declared.arc.NetArc.{NetArc}
use Rattle.stg_net.specs.Net.{NetLists}
use Rattle.stg_laws.specs.Groups.{is_driven_at, takes_from}
use Rattle.stg_laws.specs.PlainGroups.{Group}
use Rattle.stg_laws.proofs.SignalConflicts.{driven_there}
use Rattle.stg_partition.specs.declared.splits.Split.{Split}
use Rattle.stg_partition.specs.Partition.{stands_in, stand_together, AreWhole, IsSplit, IsLeastSplit}
use Rattle.stg_partition.specs.inner.Joining.{own_taker, taker_at}
use Rattle.stg_partition.specs.inner.Naming.{AreNamedGroups}
use Rattle.stg_partition.specs.inner.Numbers.{group_number, number_at, AreNumbers, are_same_numbers}
use Rattle.stg_partition.specs.inner.Splits.{AreLeastTakers, split_of, split_at, least_split, IsFound}
use Rattle.stg_partition.proofs.GroupNumbers.{same_itself, same_true, differ_turn, differ_apart, apart_differ, whole_stands, stands_driven}
use Rattle.stg_partition.proofs.SplitOrders.{IsLesser, IsReached, not_lesser_itself, lesser_first, lesser_second, lesser_one, reached_up}
use Rattle.stg_partition.proofs.Takers.{TakesByArc, own_arc, taken, IsAtMost}

none_found : {A : Type 0} (c : Split) → None ≡ Some c → A
none_found c e = absurd (cc)

-- c is the split of an arc of the list
pub record SplitByArc (n : NetLists) (numbers takers : List (Option ℕ)) (arcs : List NetArc) (c : Split) : Type 0 where
  pub at : ℕ
  pub inside : at < length arcs
  pub arc : NetArc
  pub arc_is : (d : NetArc) → get_or arcs at d ≡ arc
  pub split : split_at n numbers takers arc ≡ Some c

later : (n : NetLists) (numbers takers : List (Option ℕ)) (a : NetArc) (arcs : List NetArc) (c : Split) → SplitByArc n numbers takers arcs c → SplitByArc n numbers takers (a ∷ arcs) c
later n numbers takers a arcs c f = record { at = suc f.at; inside = omega (arith, f.inside); arc = f.arc; arc_is = f.arc_is; split = f.split }

least_split-sound : (n : NetLists) (numbers takers : List (Option ℕ)) (arcs : List NetArc) (c : Split) → least_split n numbers takers arcs ≡ Some c → SplitByArc n numbers takers arcs c
least_split-sound n numbers takers [] c e = none_found c e
least_split-sound n numbers takers (a ∷ arcs) c e = elim (lesser_one (split_at n numbers takers a) (least_split n numbers takers arcs) c e) [
  | inl here ↦ record { at = 0; inside = omega arith; arc = a; arc_is = λ d. refl; split = here }
  | inr there ↦ later n numbers takers a arcs c (least_split-sound n numbers takers arcs c there)
]

least_split-reaches : (n : NetLists) (numbers takers : List (Option ℕ)) (a : NetArc) (arcs : List NetArc) (c : Split) (k : ℕ) → k < length arcs → get_or arcs k a ≡ a → split_at n numbers takers a ≡ Some c → IsReached (least_split n numbers takers arcs) c
least_split-reaches n numbers takers a [] c k inside a_is e = absurd (omega arith)
least_split-reaches n numbers takers a (b ∷ arcs) c zero inside a_is e =
    let here : split_at n numbers takers b ≡ Some c = ap (split_at n numbers takers) a_is ∙ e in
    lesser_first (split_at n numbers takers b) (least_split n numbers takers arcs) c (subst (λ o. IsReached o c) (sym here) (not_lesser_itself c))
least_split-reaches n numbers takers a (b ∷ arcs) c (suc k) inside a_is e =
    lesser_second (split_at n numbers takers b) (least_split n numbers takers arcs) c (least_split-reaches n numbers takers a arcs c k (omega arith) a_is e)

-- a split is of the taker of a place and another signal
pub record SplitParts (numbers : List (Option ℕ)) (taker own : Option ℕ) (place : ℕ) (c : Split) : Type 0 where
  pub taker_is : taker ≡ Some c.x
  pub own_is : own ≡ Some c.y
  pub differ : are_same_numbers (number_at numbers c.x) (number_at numbers c.y) ≡ false
  pub place_is : place ≡ c.place

split_parts : (numbers : List (Option ℕ)) (taker own : Option ℕ) (place : ℕ) (c : Split) → split_of numbers taker own place ≡ Some c → SplitParts numbers taker own place c
split_parts numbers None own place c e = none_found c e
split_parts numbers (Some x) None place c e = none_found c e
split_parts numbers (Some x) (Some y) place c e = elim (cases_Bool (are_same_numbers (number_at numbers x) (number_at numbers y))) [
  | inl same ↦ none_found c (rw same at e)
  | inr differ ↦
      let s : Split = record { x = x; y = y; place = place } in
      let c_is : s ≡ c = same_Some s c (rw differ at e) in
      let P : Split → Type 0 = λ d. SplitParts numbers (Some x) (Some y) place d in
      subst P c_is (record { taker_is = refl; own_is = refl; differ = differ; place_is = refl })
]

split_whole : (numbers : List (Option ℕ)) (taker own : Option ℕ) (place x y : ℕ) → taker ≡ Some x → own ≡ Some y → are_same_numbers (number_at numbers x) (number_at numbers y) ≡ false → split_of numbers taker own place ≡ Some (record { x = x; y = y; place = place })
split_whole numbers taker own place x y t o differ =
    ap (λ q. split_of numbers q own place) t ∙ ap (λ q. split_of numbers (Some x) q place) o ∙ rw differ refl

-- a split of the place's taker, which is at most x, isn't greater than that of x and y
not_lesser_first : (x y z p : ℕ) → z ≤ x → ¬ IsLesser (record { x = x; y = y; place = p }) (record { x = z; y = y; place = p })
not_lesser_first x y z p low l = grind arith

not_lesser_second : (x y z p : ℕ) → z < x → ¬ IsLesser (record { x = x; y = y; place = p }) (record { x = z; y = x; place = p })
not_lesser_second x y z p low l = grind arith

module _ (n : NetLists) (groups : List Group) (numbers takers : List (Option ℕ)) (named : AreNamedGroups n groups) (whole : AreWhole n groups) (are : AreNumbers n groups numbers) (least : AreLeastTakers n takers) where
  -- the signals of a place's taker and of an own arc have numbers of groups
  same_numbers : (x y : ℕ) → is_driven_at n.signals x ≡ true → is_driven_at n.signals y ≡ true → are_same_numbers (number_at numbers x) (number_at numbers y) ≡ are_same_numbers (group_number groups x) (group_number groups y)
  same_numbers x y x_driven y_driven =
      ap (λ o. are_same_numbers o (number_at numbers y)) (are.each x (driven_there n x x_driven)) ∙ ap (are_same_numbers (group_number groups x)) (are.each y (driven_there n y y_driven))

  differ_up : (x y : ℕ) → x ≤ y → are_same_numbers (number_at numbers x) (number_at numbers y) ≡ false → x < y
  differ_up x y up differ = elim (cases_lt x y) [
    | inl l ↦ l
    | inr o ↦
        let same : x ≡ y = omega arith in
        absurd (false≢true (sym differ ∙ ap (λ s. are_same_numbers (number_at numbers x) (number_at numbers s)) (sym same) ∙ same_itself (number_at numbers x)))
  ]

  -- what is found is a split
  found_split : (c : Split) → SplitByArc n numbers takers n.arcs c → IsSplit n groups c.x c.y c.place
  found_split c f =
      let a = f.arc in
      let parts = split_parts numbers (taker_at takers a.place) (own_taker n a) a.place c f.split in
      let own = taken n c.place c.y (record { at = f.at; inside = f.inside; arc = a; arc_is = f.arc_is; own = parts.own_is; place_is = parts.place_is }) in
      let place = least.each c.place in
      let taker_is : taker_at takers c.place ≡ Some c.x = ap (taker_at takers) (sym parts.place_is) ∙ parts.taker_is in
      let Takes : Option ℕ → Type 0 = λ o. IfSome o (λ x. IsTrue (is_driven_at n.signals x) × IsTrue (takes_from n x c.place)) in
      let x_is = subst Takes taker_is place.takes in
      let up : IsAtMost (Some c.x) c.y = subst (λ o. IsAtMost o c.y) taker_is (place.least c.y own.0 own.1) in
      record {
        ascends = differ_up c.x c.y up parts.differ;
        apart = differ_apart n groups c.x c.y named (whole_stands n groups c.x whole x_is.0) (whole_stands n groups c.y whole own.0) (sym (same_numbers c.x c.y x_is.0 own.0) ∙ parts.differ);
        x_takes = x_is.1;
        y_takes = own.1;
      }

  -- the split of a place's taker and a signal that takes from it is reached
  reached_at : (x y p : ℕ) → taker_at takers p ≡ Some x → TakesByArc n n.arcs p y → are_same_numbers (number_at numbers x) (number_at numbers y) ≡ false → IsReached (least_split n numbers takers n.arcs) (record { x = x; y = y; place = p })
  reached_at x y p taker_is t differ =
      let here : taker_at takers t.arc.place ≡ Some x = ap (taker_at takers) t.place_is ∙ taker_is in
      let split : split_at n numbers takers t.arc ≡ Some (record { x = x; y = y; place = p }) =
      split_whole numbers (taker_at takers t.arc.place) (own_taker n t.arc) t.arc.place x y here t.own differ ∙ ap (λ q. Some (let c : Split = record { x = x; y = y; place = q } in c)) t.place_is in
      least_split-reaches n numbers takers t.arc n.arcs (record { x = x; y = y; place = p }) t.at t.inside (t.arc_is t.arc) split

  reached_by_taker : (x y p : ℕ) (o : Option ℕ) → taker_at takers p ≡ o → IsAtMost o x → are_same_numbers (number_at numbers x) (number_at numbers y) ≡ false → TakesByArc n n.arcs p x → TakesByArc n n.arcs p y
      → IsReached (least_split n numbers takers n.arcs) (record { x = x; y = y; place = p })
  reached_by_taker x y p None taker_is low differ t u = absurd low
  reached_by_taker x y p (Some z) taker_is low differ t u = elim (cases_Bool (are_same_numbers (number_at numbers z) (number_at numbers y))) [
    | inr other ↦ reached_up (least_split n numbers takers n.arcs) (record { x = z; y = y; place = p }) (record { x = x; y = y; place = p }) (reached_at z y p taker_is u other) (not_lesser_first x y z p low)
    | inl same ↦
        let z_is : number_at numbers z ≡ number_at numbers y = same_true (number_at numbers z) (number_at numbers y) same in
        let apart : are_same_numbers (number_at numbers z) (number_at numbers x) ≡ false = ap (λ o. are_same_numbers o (number_at numbers x)) z_is ∙ differ_turn (number_at numbers x) (number_at numbers y) differ in
        reached_up (least_split n numbers takers n.arcs) (record { x = z; y = x; place = p }) (record { x = x; y = y; place = p }) (reached_at z x p taker_is t apart) (not_lesser_second x y z p (differ_up z x low apart))
  ]

  -- each split is reached
  split_reached : (x y p : ℕ) → IsSplit n groups x y p → IsReached (least_split n numbers takers n.arcs) (record { x = x; y = y; place = p })
  split_reached x y p is =
      let outer = and_parts (stands_in groups x && stands_in groups y) (not (stand_together groups x y)) is.apart in
      let inner = and_parts (stands_in groups x) (stands_in groups y) outer.0 in
      let x_driven = stands_driven n groups x named inner.0 in
      let y_driven = stands_driven n groups y named inner.1 in
      let differ : are_same_numbers (number_at numbers x) (number_at numbers y) ≡ false = same_numbers x y x_driven y_driven ∙ apart_differ groups x y is.apart in
      reached_by_taker x y p (taker_at takers p) refl ((least.each p).least x x_driven is.x_takes) differ (own_arc n p x x_driven is.x_takes) (own_arc n p y y_driven is.y_takes)

  pub some_split : (c : Split) → Some c ≡ least_split n numbers takers n.arcs → IsLeastSplit n groups c.x c.y c.place
  some_split c e = record {
    split = found_split c (least_split-sound n numbers takers n.arcs c (sym e));
    least = λ v w q is. subst (λ o. IsReached o (record { x = v; y = w; place = q })) (sym e) (split_reached v w q is);
  }

  pub none_split : None ≡ least_split n numbers takers n.arcs → (x y p : ℕ) → ¬ IsSplit n groups x y p
  none_split e x y p is = subst (λ o. IsReached o (record { x = x; y = y; place = p })) (sym e) (split_reached x y p is)

-- the two for what the search answers
pub found_least : (n : NetLists) (groups : List Group) (numbers : List (Option ℕ)) (c : Split) → AreNamedGroups n groups → AreWhole n groups → AreNumbers n groups numbers → IsFound n numbers (Some c) → IsLeastSplit n groups c.x c.y c.place
found_least n groups numbers c named whole are f = some_split n groups numbers f.takers named whole are f.are_least c f.split_is

pub found_none : (n : NetLists) (groups : List Group) (numbers : List (Option ℕ)) → AreNamedGroups n groups → AreWhole n groups → AreNumbers n groups numbers → IsFound n numbers None → (x y p : ℕ) → ¬ IsSplit n groups x y p
found_none n groups numbers named whole are f = none_split n groups numbers f.takers named whole are f.are_least f.split_is
