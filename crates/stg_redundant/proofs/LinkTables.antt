-- What stands in the list of links at a place, and what a visit of the place leaves.
use Rattle.std.proofs.Common.{◌≡◌, ◌≢◌, ◌<◌, ◌≤◌, ◌+◌, ℕ, zero, suc, List, length, get_or, Some, None, refl, sym, ap, ◌∙◌, subst, inl, inr, arith}
use Rattle.std.proofs.lemmas.Bool.{cases_eq, cases_lt, lt-ltb, le-ltb}
use Rattle.stg_net.specs.Graph.{Graph, gives}
use Rattle.stg_arena.specs.WalkItems.{weighted_from}
use Rattle.stg_edit.specs.Walks.{given_places}
use Rattle.stg_edit.specs.Drafts.{IsWeightlessPastLast}
use Rattle.stg_contract.proofs.DummyTests.{taken_below}
use Rattle.stg_redundant.specs.declared.chains.Link.{Link}
use Rattle.stg_redundant.specs.inner.Chains.{link_at, IsAmong, IsRelaxed, IsKept}
use Rattle.stg_redundant.proofs.LinkPaths.{none_some, one_link, link_is}

-- where no link is, there is nothing to settle
pub kept_without : (g : Graph) (p b q : ℕ) (rooms : List ℕ) (entries : List (ℕ × ℕ)) → link_at g q ≡ None
    → IsKept g p b q rooms rooms entries entries
kept_without g p b q rooms entries none = record {
  rooms = refl;
  entries = refl;
  relaxed = λ l e other. absurd (none_some l (sym none ∙ e));
}

-- a link at whose end the room is enough is relaxed
pub kept_enough : (g : Graph) (p b q : ℕ) (rooms : List ℕ) (k : Link) → link_at g q ≡ Some k
    → get_or rooms k.giver 0 ≤ get_or rooms k.taker 0 + k.tokens
    → (l : Link) → link_at g q ≡ Some l → q ≢ p → IsRelaxed g p b rooms l
kept_enough g p b q rooms k at enough l e other =
    subst (IsRelaxed g p b rooms) (one_link g q k l at e) (λ h. enough)

-- a number with a weight is among those that a walk gives
pub among_from : (w : ℕ → ℕ) (k m a : ℕ) → a ≤ k → k < a + m → 0 < w k → IsAmong k (weighted_from w a m)
among_from w k zero a low high some = absurd (omega (arith, low, high))
among_from w k (suc m) a low high some = elim (cases_eq a k) [
  | inl e ↦ rw (lt-ltb 0 (w a) (omega (arith, some, ap w e))) (inl e)
  | inr n ↦
      let rest = among_from w k m (a + 1) (elim (cases_lt a k) [ inl h ↦ omega (arith, h) | inr h ↦ absurd (n (omega (arith, h, low))) ]) (omega (arith, high)) some in
      elim (cases_lt 0 (w a)) [
        | inl has ↦ rw (lt-ltb 0 (w a) has) (inr rest)
        | inr none ↦ rw (le-ltb 0 (w a) none) rest
      ]
]

-- each link is among the places to which its giver gives
pub among_given : (g : Graph) (t : ℕ) (left : List (ℕ × ℕ)) → IsWeightlessPastLast g → left ≡ given_places g t
    → (l : Link) → link_at g l.place ≡ Some l → l.giver ≡ t → IsAmong l.place left
among_given g t left narrow e l at from =
    let is = link_is g l.place l narrow at in
    subst (IsAmong l.place) (sym e) (subst (λ u. IsAmong l.place (given_places g u)) from
    (among_from (gives g l.giver) l.place (length g.places) 0 (omega arith) (omega (arith, taken_below g l.taker l.place (omega (arith, is.link.taken)))) (omega (arith, is.link.given))))
