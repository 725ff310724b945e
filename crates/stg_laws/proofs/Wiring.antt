-- The components of a specification's groups are wired.
use Rattle.std.proofs.Common.{◌≡◌, ◌≢◌, ℕ, ◌<◌, List, length, Bool, true, false, sym, ◌∙◌, ap, subst, inl, inr}
use Rattle.std.proofs.lemmas.Bool.{cases_eq, false≢true}
use Rattle.stg_net.specs.declared.signal.Kind.{Kind}
use Rattle.stg_net.specs.Component.{is_one_of}
use Rattle.stg_net.specs.Graph.{is_among}
use Rattle.stg_net.specs.Net.{NetLists, IsNet}
use Rattle.stg_laws.specs.Stgs.{Stg, stg_of, stg_at, is_driven, Knows, Drives, IsInternal}
use Rattle.stg_laws.specs.Correct.{HasDriver, AreWired}
use Rattle.stg_laws.proofs.Declaring.{Declares, declared, found, one_declared, signal_names-where}
use Rattle.stg_laws.proofs.Nets.{graph_of-known}

-- any kind
abbrev pub is_any : Kind → Bool
is_any kind = true

pub net_knows : (n : NetLists) (s : List ℕ) (k : ℕ) → Declares n.signals is_any s k → Knows (stg_of n) s
net_knows n s k d = ap (λ known. is_among known s) (graph_of-known n ∙ signal_names-where n.signals) ∙ found is_any n.signals s k d

pub net_known : (n : NetLists) (s : List ℕ) → Knows (stg_of n) s → (k : ℕ) × Declares n.signals is_any s k
net_known n s known = declared is_any n.signals s (sym (ap (λ known. is_among known s) (graph_of-known n ∙ signal_names-where n.signals)) ∙ known)

-- x drives the own signals, and knows no more than the known ones; of its internal signals none is shared
pub record IsGroupComponent (n : NetLists) (own known shared : List ℕ) (x : Stg) : Type 0 where
  pub driven : (s : List ℕ) → Drives x s → (k : ℕ) × Declares n.signals is_driven s k × (is_one_of own k ≡ true)
  pub drives_own : (s : List ℕ) (k : ℕ) → Declares n.signals is_driven s k → is_one_of own k ≡ true → Drives x s
  pub known_all : (s : List ℕ) → Knows x s → (k : ℕ) × Declares n.signals is_any s k × (is_one_of known k ≡ true)
  pub not_shared : (s : List ℕ) → IsInternal x s → (k : ℕ) × Declares n.signals is_any s k × (is_one_of own k ≡ true) × (is_one_of shared k ≡ false)

-- each driven signal is one group's own, and what a group owns and another one knows is shared
pub record AreGroups (n : NetLists) (many : ℕ) (own known shared : ℕ → List ℕ) : Type 0 where
  pub apart : (i j k : ℕ) → i < many → j < many → is_one_of (own i) k ≡ true → is_one_of (own j) k ≡ true → i ≡ j
  pub covered : (s : List ℕ) (k : ℕ) → Declares n.signals is_driven s k → (i : ℕ) × (i < many) × (is_one_of (own i) k ≡ true)
  pub shares : (i j k : ℕ) → i < many → j < many → i ≢ j → is_one_of (own i) k ≡ true → is_one_of (known j) k ≡ true → is_one_of (shared i) k ≡ true

module _ (n : NetLists) (net : IsNet n) (components : List Stg) (own known shared : ℕ → List ℕ) (groups : AreGroups n (length components) own known shared)
    (each : (i : ℕ) → i < length components → IsGroupComponent n (own i) (known i) (shared i) (stg_at components i)) where
  has_driver : (s : List ℕ) → Drives (stg_of n) s → HasDriver components s
  has_driver s drive =
      let d = declared is_driven n.signals s drive in
      let c = groups.covered s d.0 d.1 in
      record { driver = c.0; there = c.1; drives_it = (each c.0 c.1).drives_own s d.0 d.1 c.2 }

  one_driver : (i j : ℕ) (s : List ℕ) → i < length components → j < length components → Drives (stg_at components i) s → Drives (stg_at components j) s → i ≡ j
  one_driver i j s hi hj a b =
      let x = (each i hi).driven s a in
      let y = (each j hj).driven s b in
      let same = one_declared n net is_driven is_driven s y.0 x.0 y.1 x.1 in
      let P : ℕ → Type 0 = λ k. is_one_of (own j) k ≡ true in
      groups.apart i j x.0 hi hj x.2 (subst P same y.2)

  inside : (i j : ℕ) (s : List ℕ) → i < length components → j < length components → IsInternal (stg_at components i) s → Knows (stg_at components j) s → i ≡ j
  inside i j s hi hj internal knowing =
      let x = (each i hi).not_shared s internal in
      let y = (each j hj).known_all s knowing in
      let same = one_declared n net is_any is_any s y.0 x.0 y.1 x.1 in
      let P : ℕ → Type 0 = λ k. is_one_of (known j) k ≡ true in
      elim (cases_eq i j) [
        | inl e ↦ e
        | inr other ↦ absurd (false≢true (sym x.3 ∙ groups.shares i j x.0 hi hj other x.2 (subst P same y.2)))
      ]

  pub group_components_are_wired : AreWired (stg_of n) components
  group_components_are_wired = record {
    disjoint = one_driver;
    all_driven = has_driver;
    only_driven = λ i s h drive. let x = (each i h).driven s drive in found is_driven n.signals s x.0 x.1;
    inputs = λ i s h knowing none. record {
      known = let x = (each i h).known_all s knowing in net_knows n s x.0 x.1;
      not_driven = λ drive. none (has_driver s drive);
    };
    internals = inside;
  }
