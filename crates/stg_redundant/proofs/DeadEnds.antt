-- Where levels tell that no path goes on.
use Rattle.std.proofs.Common.{◌≡◌, ◌≢◌, ◌≤◌, ◌+◌, ◌-◌, ◌*◌, ◌⊎◌, ℕ, List, [], ◌∷◌, get_or, Some, sym, ap, ◌∙◌, subst, inl, inr, arith}
use Rattle.std.proofs.Math.Nat.{mul-add, mul-le-mul_left}
use Rattle.std.proofs.lemmas.List.Sums.{sum_by-cons}
use Rattle.stg_net.specs.Graph.{Graph}
use Rattle.stg_redundant.specs.declared.chains.Link.{Link}
use Rattle.stg_redundant.specs.inner.Chains.{link_at, IsPath, tokens_on, HasPath, IsRelaxed, IsAmong}
use Rattle.stg_redundant.specs.Levelled.{Levelling, IsLevelled}
use Rattle.stg_redundant.specs.inner.DeadLinks.{IsDead}
use Rattle.stg_edit.specs.Drafts.{IsWeightlessPastLast}
use Rattle.stg_redundant.proofs.LinkPaths.{one_link, link_is}

-- a fall for each token of a path is one for the first link's and one for the rest's
fall_on : (fall : ℕ) (l : Link) (path : List Link)
    → fall * tokens_on (l ∷ path) ≡ fall * l.tokens + fall * tokens_on path
fall_on fall l path = ap (λ k. fall * k) (sum_by-cons (λ (x : Link). x.tokens) l path) ∙ mul-add fall l.tokens (tokens_on path)

-- along a link the level grows
link_grows : (g : Graph) (v : Levelling) (l : Link) → IsWeightlessPastLast g → IsLevelled g v
    → link_at g l.place ≡ Some l → get_or v.numbers l.giver 0 + v.rise ≤ get_or v.numbers l.taker 0 + v.fall * l.tokens
link_grows g v l narrow w e =
    let at = link_is g l.place l narrow e in
    subst (λ k. get_or v.numbers l.giver 0 + v.rise ≤ get_or v.numbers l.taker 0 + v.fall * k) (sym at.tokens)
    (w.grows l.place l.giver l.taker (omega (arith, at.link.given)) (omega (arith, at.link.taken)))

-- along a path the level falls by at most so much for each token
path_falls : (g : Graph) (v : Levelling) (p b : ℕ) → IsWeightlessPastLast g → IsLevelled g v → (path : List Link) (a : ℕ) → IsPath g p a b path
    → get_or v.numbers a 0 ≤ get_or v.numbers b 0 + v.fall * tokens_on path
path_falls g v p b narrow w [] a e = omega (arith, ap (λ j. get_or v.numbers j 0) e)
path_falls g v p b narrow w (l ∷ path) a leads = omega (
  arith,
  link_grows g v l narrow w leads.0,
  ap (λ j. get_or v.numbers j 0) leads.2,
  path_falls g v p b narrow w path l.taker leads.3,
  fall_on v.fall l path,
)

-- and along a path with a link it grows besides
path_grows : (g : Graph) (v : Levelling) (p b : ℕ) → IsWeightlessPastLast g → IsLevelled g v → (l : Link) (path : List Link) (a : ℕ)
    → IsPath g p a b (l ∷ path)
    → get_or v.numbers a 0 + v.rise ≤ get_or v.numbers b 0 + v.fall * tokens_on (l ∷ path)
path_grows g v p b narrow w l path a leads = omega (
  arith,
  link_grows g v l narrow w leads.0,
  ap (λ j. get_or v.numbers j 0) leads.2,
  path_falls g v p b narrow w path l.taker leads.3,
  fall_on v.fall l path,
)

-- from the end of a dead link no path goes on
pub dead_end : (g : Graph) (v : Levelling) (p b room : ℕ) (l : Link) → IsWeightlessPastLast g → IsLevelled g v → IsDead v l b room
    → HasPath g p l.taker b room (l.tokens + 1) → ⊥
dead_end g v p b room l narrow w (inl few) h = absurd (omega (arith, h.few, few))
dead_end g v p b room l narrow w (inr dead) h = go h.path h.leads h.few
  where
    go : (path : List Link) → IsPath g p l.taker b path → tokens_on path + (l.tokens + 1) ≤ room → ⊥
    go [] e few = dead.0 e
    go (k ∷ path) leads few =
        absurd (omega (arith, dead.1, path_grows g v p b narrow w k path l.taker leads, mul-le-mul_left {m = tokens_on (k ∷ path)} {n = room - l.tokens - 1} v.fall (omega (arith, few))))

-- so a dead link is relaxed
pub dead_relaxed : (g : Graph) (v : Levelling) (p b q : ℕ) (rooms : List ℕ) (k : Link) → IsWeightlessPastLast g → IsLevelled g v
    → link_at g q ≡ Some k → IsDead v k b (get_or rooms k.giver 0)
    → (l : Link) → link_at g q ≡ Some l → q ≢ p → IsRelaxed g p b rooms l
dead_relaxed g v p b q rooms k narrow w at dead l e other =
    subst (IsRelaxed g p b rooms) (one_link g q k l at e) (λ h. absurd (dead_end g v p b (get_or rooms k.giver 0) k narrow w dead h))

-- the links that leave t but those at the places that are left, and that of p, lead to no path to b
abbrev pub AreShut : Graph → ℕ → ℕ → ℕ → ℕ → List (ℕ × ℕ) → Type 0
AreShut g p t b all left = (l : Link) → link_at g l.place ≡ Some l → l.giver ≡ t → l.place ≢ p
    → IsAmong l.place left ⊎ (HasPath g p l.taker b all (l.tokens + 1) → ⊥)

-- one more place
pub shut_more : (g : Graph) (p t b all : ℕ) (x : ℕ × ℕ) (whole left : List (ℕ × ℕ)) → whole ≡ x ∷ left
    → ((l : Link) → link_at g x.0 ≡ Some l → x.0 ≢ p → HasPath g p l.taker b all (l.tokens + 1) → ⊥)
    → AreShut g p t b all whole → AreShut g p t b all left
shut_more g p t b all x whole left split here s l at from other = elim (subst (λ xs. IsAmong l.place xs ⊎ (HasPath g p l.taker b all (l.tokens + 1) → ⊥)) split (s l at from other)) [
  | inl (inl same) ↦ inr (here l (ap (link_at g) same ∙ at) (λ e. other (sym same ∙ e)))
  | inl (inr later) ↦ inl later
  | inr none ↦ inr none
]

-- where all are shut, no path leaves t for another transition
pub shut_none : (g : Graph) (p t b most : ℕ) → AreShut g p t b (most + 1) [] → HasPath g p t b most 0 → t ≡ b
shut_none g p t b most s h = go h.path h.leads h.few
  where
    go : (path : List Link) → IsPath g p t b path → tokens_on path + 0 ≤ most → t ≡ b
    go [] e few = e
    go (l ∷ path) leads few = elim (s l leads.0 leads.2 leads.1) [
      | inl never ↦ absurd never
      | inr none ↦ absurd (none (record { path = path; leads = leads.3; few = omega (arith, few, sum_by-cons (λ (x : Link). x.tokens) l path) }))
    ]
