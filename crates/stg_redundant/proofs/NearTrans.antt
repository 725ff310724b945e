-- The transitions near a place or round a transition, and the dummies that are the same as one.
use Rattle.std.proofs.Common.{◌≡◌, ◌<◌, ◌↔◌, ◌⊎◌, ℕ, true, List, [], ◌∷◌, length, Some, None, refl, sym, subst, inl, inr, arith}
use Rattle.stg_net.specs.Graph.{Graph, takes, gives}
use Rattle.stg_edit.specs.Drafts.{IsWeightlessPastLast}
use Rattle.stg_edit.specs.Walks.{taken_places, given_places, taking_trans, giving_trans}
use Rattle.stg_laws.specs.RedundantDummies.{IsSameDummy}
use Rattle.stg_contract.specs.Neighbours.{HasArc, AreNeighbours}
use Rattle.stg_contract.specs.inner.Watches.{HasNumber}
use Rattle.stg_contract.proofs.DummyTests.{live_below}
use Rattle.stg_contract.proofs.WatchAdds.{has_number}
use Rattle.stg_redundant.specs.inner.Chains.{IsAmong}
use Rattle.stg_redundant.specs.inner.Flagging.{HasArcAmong}
use Rattle.stg_redundant.specs.inner.Tests.{first_of, is_same_dummy}
use Rattle.stg_redundant.proofs.Besides.{among_split}
use Rattle.stg_redundant.proofs.FirstSame.{first_weighs}
use Rattle.stg_redundant.proofs.Reaching.{among_is, near_is}
use Rattle.stg_redundant.proofs.RuleTests.{same_dummy_there}

-- nothing is among no elements
none_among : (p : ℕ) (xs : List (ℕ × ℕ)) → first_of xs ≡ None → IsAmong p xs → ⊥
none_among p [] e h = h
none_among p (x ∷ xs) e h = absurd (cc)

-- a transition that takes from no place and gives to none has no arc
pub no_places : (g : Graph) (v p : ℕ) → first_of (taken_places g v) ≡ None → first_of (given_places g v) ≡ None → ¬ HasArc g v p
no_places g v p none_taken none_given arc = elim ((near_is g v p).1 arc) [
  | inl taken ↦ none_among p (taken_places g v) none_taken taken
  | inr given ↦ none_among p (given_places g v) none_given given
]

-- those of both walks of a place are those that have an arc with it
pub trans_at_is : (g : Graph) (p u : ℕ) → IsWeightlessPastLast g
    → (IsAmong u (taking_trans g p) ⊎ IsAmong u (giving_trans g p)) ↔ HasArc g u p
trans_at_is g p u narrow = (to, from)
  where
    taking : IsAmong u (taking_trans g p) ↔ (0 < takes g u p)
    taking = among_is (λ t. takes g t p) (length g.trans) u (λ past. (narrow u p past).0)

    giving : IsAmong u (giving_trans g p) ↔ (0 < gives g u p)
    giving = among_is (λ t. gives g t p) (length g.trans) u (λ past. (narrow u p past).1)

    to : IsAmong u (taking_trans g p) ⊎ IsAmong u (giving_trans g p) → HasArc g u p
    to (inl h) = inl (taking.0 h)
    to (inr h) = inr (giving.0 h)

    from : HasArc g u p → IsAmong u (taking_trans g p) ⊎ IsAmong u (giving_trans g p)
    from (inl h) = inl (taking.1 h)
    from (inr h) = inr (giving.1 h)

-- what has an arc with one of the places of a walk, has one with the first or with another
pub arcs_split : (g : Graph) (x : ℕ × ℕ) (whole left : List (ℕ × ℕ)) → whole ≡ x ∷ left → (u : ℕ)
    → HasArcAmong g whole u ↔ (HasArc g u x.0 ⊎ HasArcAmong g left u)
arcs_split g x whole left e u = (to, from)
  where
    to : HasArcAmong g whole u → HasArc g u x.0 ⊎ HasArcAmong g left u
    to h = elim ((among_split x whole left e h.place).0 h.among) [
      | inl same ↦ inl (subst (HasArc g u) same h.arc)
      | inr later ↦ inr (record { place = h.place; among = later; arc = h.arc })
    ]

    from : HasArc g u x.0 ⊎ HasArcAmong g left u → HasArcAmong g whole u
    from (inl arc) = record { place = x.0; among = (among_split x whole left e x.0).1 (inl refl); arc = arc }
    from (inr h) = record { place = h.place; among = (among_split x whole left e h.place).1 (inr h.among); arc = h.arc }

-- what has an arc with a place of a transition is a neighbour
pub round_is : (g : Graph) (t u : ℕ)
    → (HasArcAmong g (taken_places g t) u ⊎ HasArcAmong g (given_places g t) u) ↔ AreNeighbours g t u
round_is g t u = (to, from)
  where
    to : HasArcAmong g (taken_places g t) u ⊎ HasArcAmong g (given_places g t) u → AreNeighbours g t u
    to (inl h) = record { place = h.place; one_arc = (near_is g t h.place).0 (inl h.among); other_arc = h.arc }
    to (inr h) = record { place = h.place; one_arc = (near_is g t h.place).0 (inr h.among); other_arc = h.arc }

    from : AreNeighbours g t u → HasArcAmong g (taken_places g t) u ⊎ HasArcAmong g (given_places g t) u
    from n = elim ((near_is g t n.place).1 n.one_arc) [
      | inl among ↦ inl (record { place = n.place; among = among; arc = n.other_arc })
      | inr among ↦ inr (record { place = n.place; among = among; arc = n.other_arc })
    ]

-- two dummies that are the same may be turned
pub turned : (g : Graph) (u v : ℕ) → IsSameDummy g u v → IsSameDummy g v u
turned g u v s = record {
  dummy = s.other_dummy;
  differ = λ e. s.differ (sym e);
  other_dummy = s.dummy;
  taken = λ p. sym (s.taken p);
  given = λ p. sym (s.given p);
}

-- a dummy that is the same as v takes from the first place from which v takes
pub same_by_takers : (g : Graph) (v p : ℕ) → first_of (taken_places g v) ≡ Some p → (u : ℕ) → IsSameDummy g u v
    → HasNumber u (taking_trans g p) × (is_same_dummy g v u ≡ true)
same_by_takers g v p e u s = (
  has_number (length g.trans) (λ t. takes g t p) u (live_below g u s.dummy.live) (omega (arith, s.taken p, first_weighs (length g.places) (takes g v) p e)),
  same_dummy_there g v u (turned g u v s),
)

-- or gives to the first one to which v gives
pub same_by_givers : (g : Graph) (v p : ℕ) → first_of (given_places g v) ≡ Some p → (u : ℕ) → IsSameDummy g u v
    → HasNumber u (giving_trans g p) × (is_same_dummy g v u ≡ true)
same_by_givers g v p e u s = (
  has_number (length g.trans) (λ t. gives g t p) u (live_below g u s.dummy.live) (omega (arith, s.given p, first_weighs (length g.places) (gives g v) p e)),
  same_dummy_there g v u (turned g u v s),
)
