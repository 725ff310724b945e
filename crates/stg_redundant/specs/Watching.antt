-- Which places an edit can have made redundant.
use Rattle.std.specs.Prelude.{◌≡◌, ◌<◌, ◌≤◌, ◌⊎◌, ◌↔◌, ℕ, List, length, Contains}
use Rattle.stg_net.specs.Graph.{Graph, IsPlace, takes, gives}
use Rattle.stg_net.specs.Contraction.{without_trans, contracted}
use Rattle.stg_laws.specs.RedundantPlaces.{IsLink, IsRedundantPlace}

-- p is near the transition t: t takes from it or gives to it
abbrev pub IsNearPlace : Graph → ℕ → ℕ → Type 0
IsNearPlace g t p = (0 < takes g t p) ⊎ (0 < gives g t p)

-- p is none of the first places, of which there are so many
abbrev pub IsNewPlace : ℕ → ℕ → Type 0
IsNewPlace count p = count ≤ p

-- one transition gives to p and one takes from it, both with weight 1
pub record IsLinkPlace (g : Graph) (p : ℕ) : Type 0 where
  pub giver : ℕ
  pub taker : ℕ
  pub link : IsLink g giver taker p

-- no transition takes from p or gives to it
abbrev pub HasNoArc : Graph → ℕ → Type 0
HasNoArc g p = (t : ℕ) → (takes g t p ≡ 0) × (gives g t p ≡ 0)

-- the live place q has the arcs of p, of which there is one
pub record HasArcsOf (g : Graph) (p q : ℕ) : Type 0 where
  pub live : IsPlace g q
  pub taken : (t : ℕ) → takes g t q ≡ takes g t p
  pub given : (t : ℕ) → gives g t q ≡ gives g t p
  pub some : ¬ HasNoArc g q

-- one of these places is a link
pub record HasLinkAmong (g : Graph) (IsOne : ℕ → Type 0) : Type 0 where
  pub place : ℕ
  pub one : IsOne place
  pub is_link : IsLinkPlace g place

-- one of these places is no link
pub record HasOtherAmong (g : Graph) (IsOne : ℕ → Type 0) : Type 0 where
  pub place : ℕ
  pub one : IsOne place
  pub no_link : ¬ IsLinkPlace g place

-- q is live and one of these places, or has the arcs of one of them, or is a link, where links count
pub data IsInReach (g : Graph) (IsOne : ℕ → Type 0) (LinksCount : Type 0) (q : ℕ) : Type 0 where
  itself : IsPlace g q → IsOne q → IsInReach g IsOne LinksCount q
  same_arcs : (p : ℕ) → IsOne p → HasArcsOf g p q → IsInReach g IsOne LinksCount q
  any_link : LinksCount → IsLinkPlace g q → IsInReach g IsOne LinksCount q

-- the deletion of t can have made q redundant: links count where a place near t is a link after it
abbrev pub IsReachedByDeletion : Graph → ℕ → ℕ → Type 0
IsReachedByDeletion g t q =
    let h = without_trans g t in
    IsInReach h (IsNearPlace g t) (HasLinkAmong h (IsNearPlace g t)) q

-- the contraction of t can have made q redundant: links count where a new place is a link, and a
-- place near t was none
abbrev pub IsReachedByContraction : Graph → ℕ → ℕ → Type 0
IsReachedByContraction g t q =
    let h = contracted g t in
    let IsNew : ℕ → Type 0 = IsNewPlace (length g.places) in
    IsInReach h IsNew (HasLinkAmong h IsNew × HasOtherAmong g (IsNearPlace g t)) q

-- each redundant place is watched
abbrev pub AreWatched : Graph → List ℕ → Type 0
AreWatched g watch = (p : ℕ) → IsRedundantPlace g p → Contains watch p

-- what isn't watched any more isn't redundant
abbrev pub KeepsRedundant : Graph → List ℕ → List ℕ → Type 0
KeepsRedundant g old new = (p : ℕ) → Contains old p → Contains new p ⊎ (¬ IsRedundantPlace g p)

-- the new list has nothing that the old one doesn't have
abbrev pub HasNoneBesides : List ℕ → List ℕ → Type 0
HasNoneBesides old new = (p : ℕ) → Contains new p → Contains old p

-- the new list has what the old one has, and besides what counts as more
abbrev pub HasBesides : (ℕ → Type 0) → List ℕ → List ℕ → Type 0
HasBesides IsMore old new = (p : ℕ) → Contains new p ↔ (Contains old p ⊎ IsMore p)
