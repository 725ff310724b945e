-- Links, which are places with one giver and one taker with weights 1, and paths along them.
use Rattle.std.specs.Prelude.{◌≡◌, ◌≢◌, ◌≤◌, ◌<◌, ◌+◌, ◌-◌, ◌⊎◌, ℕ, List, [], ◌∷◌, length, Option, None, Some, Contains, All, slice_set, slice_index, sum_by}
use Rattle.std.specs.List.Sorted.{IsPermutation}
use Rattle.stg_net.specs.Graph.{Graph, IsTrans, tokens_at}
use Rattle.stg_edit.specs.Walks.{taking_trans, giving_trans}
use Rattle.stg_redundant.specs.declared.chains.Link.{Link}
use Rattle.stg_redundant.specs.inner.Tests.{sole_of}

-- the link of a place whose one giver and one taker these are
abbrev pub link_of : Graph → ℕ → Option ℕ → Option ℕ → Option Link
link_of g p (Some a) (Some b) =
    Some (record { place = p; giver = a; taker = b; tokens = tokens_at g p })
link_of g p (Some a) None = None
link_of g p None o = None

-- the link at p, where p is one
abbrev pub link_at : Graph → ℕ → Option Link
link_at g p = link_of g p (sole_of (giving_trans g p)) (sole_of (taking_trans g p))

-- links other than that of the place p lead from a to b
abbrev pub IsPath : Graph → ℕ → ℕ → ℕ → List Link → Type 0
IsPath g p a b [] = a ≡ b
IsPath g p a b (l ∷ path) =
    (link_at g l.place ≡ Some l) × (l.place ≢ p) × (l.giver ≡ a) × IsPath g p l.taker b path

-- what the links of a path hold
abbrev pub tokens_on : List Link → ℕ
tokens_on path = sum_by (λ (l : Link). l.tokens) path

-- such a path from a to b leaves so much room of all
pub record HasPath (g : Graph) (p a b all room : ℕ) : Type 0 where
  pub path : List Link
  pub leads : IsPath g p a b path
  pub few : tokens_on path + room ≤ all

-- each room is left by a path from a
abbrev pub AreReached : Graph → ℕ → ℕ → ℕ → List ℕ → Type 0
AreReached g p a all rooms =
    (t : ℕ) → 0 < slice_index rooms t → HasPath g p a t all (slice_index rooms t)

-- the transition is listed with its room
abbrev pub IsListed : List (ℕ × ℕ) → List ℕ → ℕ → Type 0
IsListed entries rooms t = Contains entries (slice_index rooms t, t)

-- the entries are of live transitions
abbrev pub AreEntriesLive : Graph → List (ℕ × ℕ) → Type 0
AreEntriesLive g entries = All (λ (x : ℕ × ℕ). IsTrans g x.1) entries

-- where the link goes on to b, the room at its end is not less than it leaves
abbrev pub IsRelaxed : Graph → ℕ → ℕ → List ℕ → Link → Type 0
IsRelaxed g p b rooms l = HasPath g p l.taker b (slice_index rooms l.giver) (l.tokens + 1)
    → slice_index rooms l.giver ≤ slice_index rooms l.taker + l.tokens

-- each link but that of p is relaxed or excused
abbrev pub AreRelaxed : Graph → ℕ → ℕ → List ℕ → (Link → Type 0) → Type 0
AreRelaxed g p b rooms IsExcused = (l : Link) → link_at g l.place ≡ Some l → l.place ≢ p
    → IsExcused l ⊎ IsRelaxed g p b rooms l

-- the number is one of those with a weight
abbrev pub IsAmong : ℕ → List (ℕ × ℕ) → Type 0
IsAmong q [] = ⊥
IsAmong q (x ∷ xs) = (x.0 ≡ q) ⊎ IsAmong q xs

-- nothing changes, for the link at q is relaxed
pub record IsKept (g : Graph) (p b q : ℕ) (old new : List ℕ) (before after : List (ℕ × ℕ))
    : Type 0 where
  pub rooms : new ≡ old
  pub entries : after ≡ before
  pub relaxed : (l : Link) → link_at g q ≡ Some l → q ≢ p → IsRelaxed g p b old l

-- the room at the end of the link at q rises to what the link leaves, and is listed
pub record IsRaised (g : Graph) (p q : ℕ) (old new : List ℕ) (before after : List (ℕ × ℕ))
    : Type 0 where
  pub link : Link
  pub at : link_at g q ≡ Some link
  pub other : q ≢ p
  pub more : slice_index old link.taker + link.tokens < slice_index old link.giver
  pub set : new ≡ slice_set old link.taker (slice_index old link.giver - link.tokens)
  pub listed : IsPermutation ((slice_index old link.giver - link.tokens, link.taker) ∷ before) after

-- the link at q is kept or raised
abbrev pub IsVisited : Graph → ℕ → ℕ → ℕ → List ℕ → List ℕ → List (ℕ × ℕ) → List (ℕ × ℕ) → Type 0
IsVisited g p b q old new before after =
    IsKept g p b q old new before after ⊎ IsRaised g p q old new before after

-- what all lacks of each room, and the entries
abbrev pub effort : ℕ → List ℕ → List (ℕ × ℕ) → ℕ
effort all rooms entries = sum_by (λ room. all - room) rooms + length entries

-- the links that leave t are visited, but those at the places that are left
pub record ArePassed (g : Graph) (p b t : ℕ) (left : List (ℕ × ℕ)) (old new : List ℕ)
    (before after : List (ℕ × ℕ)) : Type 0 where
  pub long : length new ≡ length old
  pub small : (all : ℕ) → All (λ room. room ≤ all) old → All (λ room. room ≤ all) new
  pub grown : (u : ℕ) → slice_index old u ≤ slice_index new u
  pub live : AreEntriesLive g before → AreEntriesLive g after
  pub reached : (a all : ℕ) → AreReached g p a all old → AreReached g p a all new
  pub spent : (all : ℕ) → All (λ room. room ≤ all) old
      → effort all new after ≤ effort all old before
  pub relaxed : AreRelaxed g p b old (λ l. IsListed before old l.giver ⊎ (l.giver ≡ t))
      → AreRelaxed g p b new
      (λ l. IsListed after new l.giver ⊎ ((l.giver ≡ t) × IsAmong l.place left))

-- how a search from a stands, with so much room of all links but that of p
pub record IsSearch (g : Graph) (p a b all : ℕ) (rooms : List ℕ)
    (entries : List (ℕ × ℕ)) : Type 0 where
  pub long : length rooms ≡ length g.trans
  pub small : All (λ room. room ≤ all) rooms
  pub first : all ≤ slice_index rooms a
  pub live : AreEntriesLive g entries
  pub reached : AreReached g p a all rooms
  pub relaxed : AreRelaxed g p b rooms (λ l. IsListed entries rooms l.giver)
