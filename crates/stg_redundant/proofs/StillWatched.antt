-- After each edit every redundant place is watched, where what the edit reaches is watched again.
use Rattle.std.proofs.Common.{◌≡◌, ℕ, Bool, List, length, IsTrue, Contains, sym, subst, inr}
use Rattle.stg_net.specs.Graph.{Graph}
use Rattle.stg_net.specs.Contraction.{without_place, without_trans, contracted}
use Rattle.stg_edit.specs.Drafts.{IsWeightlessPastLast}
use Rattle.stg_laws.specs.RedundantPlaces.{IsRedundantPlace}
use Rattle.stg_laws.specs.Secure.{IsPureOrdinary}
use Rattle.stg_redundant.specs.Watching.{IsNearPlace, IsNewPlace, IsInReach, itself, same_arcs, any_link, HasLinkAmong, HasOtherAmong, AreWatched, HasBesides}
use Rattle.stg_redundant.proofs.WatchedPlaces.{place_deletion_reaches_none, trans_deletion_reaches}
use Rattle.stg_redundant.proofs.ContractedPlaces.{contraction_reaches}

-- what is in reach of some places is in reach of more, where links count not less
wider : (g : Graph) (IsOne IsAlso : ℕ → Type 0) (Count More : Type 0) (q : ℕ)
    → ((p : ℕ) → IsOne p → IsAlso p) → (Count → More) → IsInReach g IsOne Count q
    → IsInReach g IsAlso More q
wider g IsOne IsAlso Count More q also more (itself live one) = itself live (also q one)
wider g IsOne IsAlso Count More q also more (same_arcs p one a) = same_arcs p (also p one) a
wider g IsOne IsAlso Count More q also more (any_link count l) = any_link (more count) l

-- after the deletion of a place nothing is watched again
pub watched-without_place : (g : Graph) (watch : List ℕ) (p : ℕ) → AreWatched g watch
    → AreWatched (without_place g p) watch
watched-without_place g watch p watched q redundant =
    watched q (place_deletion_reaches_none g p q redundant)

-- after the deletion of a transition, where no place was redundant, what is in reach of the places
-- near it is watched again
pub watched-without_trans : (g : Graph) (t : ℕ) (near old new : List ℕ)
    → ((p : ℕ) → ¬ IsRedundantPlace g p) → ((p : ℕ) → IsNearPlace g t p → Contains near p)
    → HasBesides (IsInReach (without_trans g t) (Contains near) (HasLinkAmong (without_trans g t) (Contains near))) old new
    → AreWatched (without_trans g t) new
watched-without_trans g t near old new none all added q redundant =
    let h = without_trans g t in
    (added q).1 (inr (wider h (IsNearPlace g t) (Contains near) (HasLinkAmong h (IsNearPlace g t)) (HasLinkAmong h (Contains near)) q all (λ x. record { place = x.place; one = all x.place x.one; is_link = x.is_link }) (trans_deletion_reaches g t none q redundant)))

-- after a contraction, where no place was redundant, what is in reach of the new places is watched
-- again
pub watched-contracted : (g : Graph) (t first : ℕ) (had_other : Bool) (old new : List ℕ)
    → IsWeightlessPastLast g → IsPureOrdinary g t → ((p : ℕ) → ¬ IsRedundantPlace g p)
    → first ≡ length g.places → (HasOtherAmong g (IsNearPlace g t) → IsTrue had_other)
    → HasBesides (IsInReach (contracted g t) (IsNewPlace first) (HasLinkAmong (contracted g t) (IsNewPlace first) × IsTrue had_other)) old new
    → AreWatched (contracted g t) new
watched-contracted g t first had_other old new narrow pure none e had added q redundant =
    let h = contracted g t in
    let Count : ℕ → Type 0 = λ n. HasLinkAmong h (IsNewPlace n) × HasOtherAmong g (IsNearPlace g t) in
    let More : ℕ → Type 0 = λ n. HasLinkAmong h (IsNewPlace n) × IsTrue had_other in
    let reached = subst (λ n. IsInReach h (IsNewPlace n) (Count n) q) (sym e) (contraction_reaches g t narrow pure none q redundant) in
    (added q).1 (inr (wider h (IsNewPlace first) (IsNewPlace first) (Count first) (More first) q (λ p one. one) (λ x. (x.0, had x.1)) reached))
