-- The settled parts of feasible groups are faithful components, and a correct decomposition of the specification where it is deterministic.
use Rattle.std.proofs.Common.{◌≡◌, ℕ, ◌<◌, ◌≤◌, true, List, map, length, get_or, All, refl, sym, ap, subst, arith}
use Rattle.std.specs.List.{range_with_len}
use Rattle.std.proofs.lemmas.List.FromFn.{length-map-range_with_len}
use Rattle.stg_net.specs.Component.{is_one_of}
use Rattle.stg_net.specs.Initial.{graph_of}
use Rattle.stg_net.specs.Net.{NetLists, IsNet}
use Rattle.stg_net.proofs.Members.{one_of-contained, contained-one_of}
use Rattle.stg_laws.specs.Closed.{IsClosed}
use Rattle.stg_laws.specs.Faithful.{AreComponents}
use Rattle.stg_laws.specs.Groups.{is_known_to, known_to, names_at}
use Rattle.stg_edit.proofs.Lists.{map-after}
use Rattle.stg_laws.specs.PlainGroups.{Group, AreFeasible}
use Rattle.stg_laws.proofs.FeasibleGroups.{feasible_closed, feasible_few, own_there}
use Rattle.stg_partition.proofs.Numbers.{numbers_pass}
use Rattle.stg_laws.proofs.KnownSignals.{passing_contained}
use Rattle.stg_derive.specs.declared.part.Part.{Part}
use Rattle.stg_derive.specs.Derivations.{with_restored}
use Rattle.stg_crew.specs.Parts.{no_part, part_at}
use Rattle.stg_decomp.specs.Settled.{settled_part, settled_parts}
use Rattle.stg_crew.specs.Parts.{no_group, group_in, AreDerived}
use Rattle.stg_decomp.specs.Parts.{ArePartsOf, nets_of}
use Rattle.stg_derive.proofs.FinishedParts.{AreInRange}
use Rattle.stg_decomp.proofs.DerivedParts.{part_is_derived}
use Rattle.stg_decomp.proofs.SettledNets.{IsDerivedNet, derived_nets_are_components}
use Rattle.stg_decomp.proofs.Grouped.{own_at, one_group, some_group}

-- what a group knows is in range
pub known_in_range : (n : NetLists) (groups : List Group) → AreFeasible n groups → (i : ℕ) → i < length groups → AreInRange n (group_in groups i).known
known_in_range n groups feasible i below =
    let g = group_in groups i in
    subst (AreInRange n) (sym (feasible.feasible i no_group below).known) (λ k d low. (numbers_pass (is_known_to n g.own) (length n.signals) k d low).below)

-- so it is of all groups
pub all_in_range : (n : NetLists) (groups : List Group) → AreFeasible n groups → All (λ (g : Group). AreInRange n g.known) groups
all_in_range n groups feasible i d below =
    let g = get_or groups i d in
    subst (AreInRange n) (sym (feasible.feasible i d below).known) (λ k e low. (numbers_pass (is_known_to n g.own) (length n.signals) k e low).below)

module _ (n : NetLists) (net : IsNet n) (groups : List Group) (feasible : AreFeasible n groups) where
  pub group_closed : (i : ℕ) → i < length groups → IsClosed (graph_of n) (names_at n (group_in groups i).own) (names_at n (group_in groups i).known)
  group_closed i below = feasible_closed n groups net feasible i no_group below

  -- a group knows its own signals
  own_is_known : (i : ℕ) → i < length groups → (k : ℕ) → is_one_of (group_in groups i).own k ≡ true → is_one_of (group_in groups i).known k ≡ true
  own_is_known i below k e =
      let g = group_in groups i in
      let p = feasible.feasible i no_group below in
      let c = contained-one_of g.own k e in
      let there = subst (λ s. s < length n.signals) c.2 (own_there n g p c.0 k c.1) in
      let passes : is_known_to n g.own k ≡ true = rw e refl in
      let listed = one_of-contained (known_to n g.own) k (passing_contained (is_known_to n g.own) (length n.signals) k there passes) in
      subst (λ known. is_one_of known k ≡ true) (sym p.known) listed

  module _ (derived : List Part) (are : AreDerived n groups derived) (nets : All (λ (p : Part). IsNet p.net) derived) where
    known_at : ℕ → List ℕ
    known_at i = with_restored n (group_in groups i).known (part_at derived i).restored

    net_at : ℕ → NetLists
    net_at i = (part_at derived i).net

    derived_at : (i : ℕ) → i < length derived → IsDerivedNet n (own_at groups i) (known_at i) (net_at i)
    unfolding known_at net_at
    derived_at i there =
        let below : i < length groups = omega (arith, there, are.as_many) in
        part_is_derived n net (group_in groups i) (known_in_range n groups feasible i below) (group_closed i below) (part_at derived i) (are.each i below) (nets i no_part there) (own_is_known i below)

    pub derived_are_components : AreComponents n (nets_of (settled_parts derived))
    unfolding known_at net_at
    derived_are_components =
        let same : map (λ i. (settled_part derived i).net) (range_with_len 0 (length derived)) ≡ nets_of (settled_parts derived) =
        map-after (λ i. (settled_part derived i).net) (λ (p : Part). p.net) (settled_part derived) (λ i. refl) (range_with_len 0 (length derived)) in
        subst (AreComponents n) same
        (derived_nets_are_components n net (length derived) (own_at groups) known_at net_at derived_at
        (λ i j k hi hj a b. one_group n groups feasible i j k (omega (arith, hi, are.as_many)) (omega (arith, hj, are.as_many)) a b)
        (λ s k d. let c = some_group n groups feasible s k d in (c.0, omega (arith, c.1, are.as_many), c.2)))

-- parts of feasible groups are components
pub parts_are_components : (n : NetLists) (groups : List Group) (parts : List Part) → IsNet n → AreFeasible n groups → (are : ArePartsOf n groups parts) → All (λ (p : Part). IsNet p.net) are.derived → AreComponents n (nets_of parts)
parts_are_components n groups parts net feasible are nets =
    subst (λ (ps : List Part). AreComponents n (nets_of ps)) (sym are.are_settled) (derived_are_components n net groups feasible are.derived are.are_derived nets)

-- and there are no more of them than signals
pub few_parts : (n : NetLists) (groups : List Group) (parts : List Part) → AreFeasible n groups → ArePartsOf n groups parts → length parts ≤ length n.signals
few_parts n groups parts feasible are =
    omega (arith, ap (λ (ps : List Part). length ps) are.are_settled, length-map-range_with_len (settled_part are.derived) 0 (length are.derived), are.are_derived.as_many, feasible_few n groups feasible)
