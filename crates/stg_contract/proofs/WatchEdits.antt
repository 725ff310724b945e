-- A watch that has each hopeful dummy of a draft has those of the draft after an edit too, once the dummies beside
-- the edit are weighed anew.
use Rattle.std.proofs.Common.{◌≡◌, ◌≤◌, ◌⊎◌, ℕ, List, Option, Some, is_some, ap, ◌∙◌, sym, inl, inr, arith}
use Rattle.stg_net.specs.Graph.{Graph, IsDummy}
use Rattle.stg_net.specs.Contraction.{contracted, without_place, without_trans}
use Rattle.stg_laws.specs.Conflict.{HasNoAutoConflict}
use Rattle.stg_edit.specs.Replacing.{new_places}
use Rattle.stg_contract.specs.Neighbours.{HasArc, AreNeighbours, MayContract}
use Rattle.stg_contract.specs.WatchedDummies.{least_places, WatchesHopeful, AreLeastPlaces, IsWeighed, WeighsDummies}
use Rattle.stg_contract.proofs.RoundEdits.{cases_arc, no_arc, cases_neighbours, dummy-without_place, dummy-without_trans, dummy-contracted}
use Rattle.stg_contract.proofs.DummyEdits.{may_contract-without_place, new_places-without_place, may_contract-without_trans, new_places-without_trans, may_contract-contracted, new_places-contracted}

-- what is kept for a weighed dummy is at most what its contraction makes
least_weighed : (g : Graph) (watch : List (Option ℕ)) (u n : ℕ) → least_places watch u ≡ Some (new_places g u)
    → least_places watch u ≡ Some n → n ≤ new_places g u
least_weighed g watch u n weighed e =
    let both : Some (new_places g u) ≡ Some n = sym weighed ∙ e in
    let is : new_places g u ≡ n = cc in
    omega (arith, is)

-- where all dummies are weighed, each hopeful one is watched
pub hopeful_weighed : (g : Graph) (watch : List (Option ℕ)) → ((t : ℕ) → IsWeighed g watch t) → WatchesHopeful g watch
hopeful_weighed g watch weighed t d may = ap is_some (weighed t d)

-- and no contraction makes fewer places than are kept
pub all_least : (g : Graph) (watch : List (Option ℕ)) → ((t : ℕ) → IsWeighed g watch t) → AreLeastPlaces g watch
all_least g watch weighed t n e d = least_weighed g watch t n (weighed t d) e

-- where the dummies near an edit are weighed after it, and each other one is as hopeful as before and makes as many
-- places
module _ (g h : Graph) (IsNear : ℕ → Type 0) (decides : (u : ℕ) → IsNear u ⊎ (¬ IsNear u)) (before : (u : ℕ) → IsDummy h u → IsDummy g u)
    (old new : List (Option ℕ)) (weighs : WeighsDummies h old new) (weighed : (u : ℕ) → IsNear u → IsWeighed h new u) where
  hopeful-edited : ((u : ℕ) → IsDummy h u → ¬ IsNear u → MayContract h u → MayContract g u) → WatchesHopeful g old
      → WatchesHopeful h new
  hopeful-edited may has u d m = elim (decides u) [
    | inl near ↦ ap is_some (weighed u near d)
    | inr far ↦ elim (weighs.kept u) [
      | inl same ↦ ap is_some same ∙ has u (before u d) (may u d far m)
      | inr now ↦ ap is_some now.1
    ]
  ]

  least-edited : ((u : ℕ) → IsDummy h u → ¬ IsNear u → new_places h u ≡ new_places g u) → AreLeastPlaces g old
      → AreLeastPlaces h new
  least-edited places least u n e d = elim (decides u) [
    | inl near ↦ least_weighed h new u n (weighed u near d) e
    | inr far ↦ elim (weighs.kept u) [
      | inl same ↦ omega (arith, places u d far, least u n (sym same ∙ e) (before u d))
      | inr now ↦ least_weighed h new u n now.1 e
    ]
  ]

-- after the deletion of a place
module _ (g : Graph) (p : ℕ) (old new : List (Option ℕ)) (weighs : WeighsDummies (without_place g p) old new) (weighed : (u : ℕ) → HasArc g u p → IsWeighed (without_place g p) new u) where
  decides_arc : (u : ℕ) → HasArc g u p ⊎ (¬ HasArc g u p)
  decides_arc u = elim (cases_arc g u p) [ inl arc ↦ inl arc | inr free ↦ inr (no_arc g u p free) ]

  pub hopeful-without_place : HasNoAutoConflict g → WatchesHopeful g old → WatchesHopeful (without_place g p) new
  hopeful-without_place calm =
      hopeful-edited g (without_place g p) (λ u. HasArc g u p) decides_arc (dummy-without_place g p) old new weighs weighed
      (λ u d far. may_contract-without_place g p u calm d far)

  pub least-without_place : AreLeastPlaces g old → AreLeastPlaces (without_place g p) new
  least-without_place =
      least-edited g (without_place g p) (λ u. HasArc g u p) decides_arc (dummy-without_place g p) old new weighs weighed
      (λ u d far. new_places-without_place g p u far)

-- after that of a transition
module _ (g : Graph) (t : ℕ) (old new : List (Option ℕ)) (weighs : WeighsDummies (without_trans g t) old new) (weighed : (u : ℕ) → AreNeighbours g t u → IsWeighed (without_trans g t) new u) where
  pub hopeful-without_trans : HasNoAutoConflict g → WatchesHopeful g old → WatchesHopeful (without_trans g t) new
  hopeful-without_trans calm =
      hopeful-edited g (without_trans g t) (AreNeighbours g t) (cases_neighbours g t) (λ u d. (dummy-without_trans g t u d).0) old new weighs weighed
      (λ u d far. may_contract-without_trans g t u calm d far)

  pub least-without_trans : AreLeastPlaces g old → AreLeastPlaces (without_trans g t) new
  least-without_trans =
      least-edited g (without_trans g t) (AreNeighbours g t) (cases_neighbours g t) (λ u d. (dummy-without_trans g t u d).0) old new weighs weighed
      (λ u d far. new_places-without_trans g t u (dummy-without_trans g t u d).1 far)

-- and after its contraction
module _ (g : Graph) (t : ℕ) (old new : List (Option ℕ)) (weighs : WeighsDummies (contracted g t) old new) (weighed : (u : ℕ) → AreNeighbours g t u → IsWeighed (contracted g t) new u) where
  pub hopeful-contracted : HasNoAutoConflict g → WatchesHopeful g old → WatchesHopeful (contracted g t) new
  hopeful-contracted calm =
      hopeful-edited g (contracted g t) (AreNeighbours g t) (cases_neighbours g t) (λ u d. (dummy-contracted g t u d).0) old new weighs weighed
      (λ u d far. may_contract-contracted g t u calm d far)

  pub least-contracted : AreLeastPlaces g old → AreLeastPlaces (contracted g t) new
  least-contracted =
      least-edited g (contracted g t) (AreNeighbours g t) (cases_neighbours g t) (λ u d. (dummy-contracted g t u d).0) old new weighs weighed
      (λ u d far. new_places-contracted g t u d far)
