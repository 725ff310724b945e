-- Feasible groups share out the signals that a specification drives.
use Rattle.std.proofs.Common.{◌≡◌, ℕ, ◌<◌, List, length, get_or, Contains, true, sym, ◌∙◌, subst, inl, inr}
use Rattle.std.proofs.lemmas.Bool.{cases_order}
use Rattle.std.proofs.lemmas.List.{get_or_default}
use Rattle.std.specs.Prelude.{Option, Some, None}
use Rattle.stg_net.specs.Component.{is_one_of}
use Rattle.stg_net.proofs.Members.{one_of-contained, contained-one_of}
use Rattle.stg_net.specs.Net.{NetLists}
use Rattle.stg_laws.specs.Stgs.{is_driven}
use Rattle.stg_laws.proofs.Declaring.{Declares}
use Rattle.stg_laws.specs.PlainGroups.{Group, AreFeasible}
use Rattle.stg_laws.proofs.FeasibleGroups.{plain_feasible}
use Rattle.stg_crew.specs.Parts.{no_group}
use Rattle.stg_decomp.specs.Parts.{AreGroupsOf}

-- the groups of a specification are feasible
pub groups_feasible : (n : NetLists) (partition : Option (List ℕ)) (groups : List Group) → AreGroupsOf n partition groups → AreFeasible n groups
groups_feasible n None groups are = plain_feasible n groups are
groups_feasible n (Some text) groups are = are.feasible

-- the own signals of the i-th group
abbrev pub own_at : List Group → ℕ → List ℕ
own_at groups i = (get_or groups i no_group).own

module _ (n : NetLists) (groups : List Group) (feasible : AreFeasible n groups) where
  pub one_group : (i j k : ℕ) → i < length groups → j < length groups → is_one_of (own_at groups i) k ≡ true → is_one_of (own_at groups j) k ≡ true → i ≡ j
  one_group i j k hi hj a b =
      let c = contained-one_of (own_at groups i) k a in
      let d = contained-one_of (own_at groups j) k b in
      elim (cases_order i j) [
        | inl same ↦ same
        | inr rest ↦ elim rest [
          | inl lower ↦ absurd (feasible.apart i j no_group lower hj k c d)
          | inr higher ↦ absurd (feasible.apart j i no_group higher hi k d c)
        ]
      ]

  pub some_group : (s : List ℕ) (k : ℕ) → Declares n.signals is_driven s k → (i : ℕ) × (i < length groups) × (is_one_of (own_at groups i) k ≡ true)
  some_group s k d =
      let a = feasible.whole k d.passes in
      let same : get_or groups a.0 no_group ≡ a.1 = get_or_default groups a.0 no_group a.1 a.2 ∙ a.3 in
      let P : Group → Type 0 = λ g. Contains g.own k in
      (a.0, a.2, one_of-contained (own_at groups a.0) k (subst P (sym same) a.4))
