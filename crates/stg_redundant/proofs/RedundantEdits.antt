-- Which dummies an edit can have made redundant: those alone that have an arc with a place at which it is, and those
-- that are the same as one of them afterwards.
use Rattle.std.proofs.Common.{◌≡◌, ◌⊎◌, ℕ, Bool, List, length, Option, Some, None, refl, inl, inr, arith}
use Rattle.stg_net.specs.Graph.{Graph, IsDummy, takes, gives}
use Rattle.stg_net.specs.Contraction.{contracted, without_place, without_trans}
use Rattle.stg_edit.specs.Walks.{taken_places, given_places}
use Rattle.stg_laws.specs.RedundantDummies.{IsLoopDummy, IsSameDummy, IsRedundantDummy, loop_dummy, same_dummy}
use Rattle.stg_laws.proofs.TransDeletion.{without_trans-IsWithout}
use Rattle.stg_contract.specs.Neighbours.{HasArc, AreNeighbours}
use Rattle.stg_contract.proofs.SameRound.{AreSameRound}
use Rattle.stg_contract.proofs.RoundEdits.{cases_arc, no_arc, cases_neighbours, round-contracted, dummy-without_place, dummy-without_trans, dummy-contracted}
use Rattle.stg_contract.proofs.DummyEdits.{same-without_place}
use Rattle.stg_redundant.specs.inner.Tests.{first_of}
use Rattle.stg_redundant.specs.FlaggedDummies.{IsFlagged, FlagsRedundant, DropsUseful, FlagsMore, IsFlaggedWithSame}
use Rattle.stg_redundant.proofs.FirstSame.{first_weighs}
use Rattle.stg_redundant.proofs.NearTrans.{no_places}
use Rattle.stg_redundant.proofs.RuleTests.{redundant_is_dummy}

-- where a dummy has the same arcs in two graphs, its loop is one in both
loop_before : (g h : Graph) (u : ℕ) → AreSameRound g h u → IsDummy g u → IsLoopDummy h u → IsLoopDummy g u
loop_before g h u same d l = record { dummy = d; same = λ p. omega (arith, same.taken p, same.given p, l.same p) }

-- and where two dummies have, they are the same in both
same_before : (g h : Graph) (u v : ℕ) → AreSameRound g h u → AreSameRound g h v → IsDummy g u → IsDummy g v
    → IsSameDummy h u v → IsSameDummy g u v
same_before g h u v one other d e s = record {
  dummy = d;
  differ = s.differ;
  other_dummy = e;
  taken = λ p. omega (arith, one.taken p, other.taken p, s.taken p);
  given = λ p. omega (arith, one.given p, other.given p, s.given p);
}

-- the deletion of a transition makes no dummy redundant
pub redundant-without_trans : (g : Graph) (t u : ℕ) → IsRedundantDummy (without_trans g t) u → IsRedundantDummy g u
redundant-without_trans g t u (loop_dummy l) =
    let d = dummy-without_trans g t u l.dummy in
    let w = without_trans-IsWithout g t in
    loop_dummy (record { dummy = d.0; same = λ p. omega (arith, w.taken u p d.1, w.given u p d.1, l.same p) })
redundant-without_trans g t u (same_dummy v s) =
    let d = dummy-without_trans g t u s.dummy in
    let e = dummy-without_trans g t v s.other_dummy in
    let w = without_trans-IsWithout g t in
    same_dummy v (record {
      dummy = d.0;
      differ = s.differ;
      other_dummy = e.0;
      taken = λ p. omega (arith, w.taken u p d.1, w.taken v p e.1, s.taken p);
      given = λ p. omega (arith, w.given u p d.1, w.given v p e.1, s.given p);
    })

-- a place with which u has an arc
record HasSomeArc (g : Graph) (u : ℕ) : Type 0 where
  place : ℕ
  arc : HasArc g u place

-- u has one or none
arc_or_idle : (g : Graph) (u : ℕ) → HasSomeArc g u ⊎ ((p : ℕ) → ¬ HasArc g u p)
arc_or_idle g u = by (first_of (taken_places g u)) (first_of (given_places g u)) refl refl
  where
    by : (one other : Option ℕ) → first_of (taken_places g u) ≡ one → first_of (given_places g u) ≡ other
        → HasSomeArc g u ⊎ ((p : ℕ) → ¬ HasArc g u p)
    by (Some p) other e f = inl (record { place = p; arc = inl (first_weighs (length g.places) (takes g u) p e) })
    by None (Some p) e f = inl (record { place = p; arc = inr (first_weighs (length g.places) (gives g u) p f) })
    by None None e f = inr (λ p. no_places g u p e f)

-- an edit round which each dummy is watched that is redundant after it, with those that are the same: the other dummies
-- have the arcs that they had
module _ (g h : Graph) (IsNear : ℕ → Type 0) (decides : (u : ℕ) → IsNear u ⊎ (¬ IsNear u)) (before : (u : ℕ) → IsDummy h u → IsDummy g u)
    (same : (u : ℕ) → IsDummy h u → ¬ IsNear u → AreSameRound g h u) (flags : List Bool) (added : (v : ℕ) → IsNear v → IsFlaggedWithSame h flags v)
    (has : FlagsRedundant g flags) where
  far_flagged : (u : ℕ) → ¬ IsNear u → IsRedundantDummy h u → IsFlagged flags u
  far_flagged u far (loop_dummy l) = has u (loop_dummy (loop_before g h u (same u l.dummy far) (before u l.dummy) l))
  far_flagged u far (same_dummy v s) =
      let one = same u s.dummy far in
      elim (decides v) [
        | inr also ↦ has u (same_dummy v (same_before g h u v one (same v s.other_dummy also) (before u s.dummy) (before v s.other_dummy) s))
        | inl near ↦ elim (arc_or_idle h v) [
          | inl some ↦ (added v near).1 u some.place some.arc s
          | inr idle ↦ has u (loop_dummy (record {
            dummy = before u s.dummy;
            same = λ p. omega (arith, one.taken p, one.given p, s.taken p, s.given p, none_taken v p (idle p), none_given v p (idle p));
          }))
        ]
      ]
    where
      none_taken : (v p : ℕ) → ¬ HasArc h v p → takes h v p ≡ 0
      none_taken v p none = elim (cases_arc h v p) [ inl arc ↦ absurd (none arc) | inr free ↦ free.0 ]

      none_given : (v p : ℕ) → ¬ HasArc h v p → gives h v p ≡ 0
      none_given v p none = elim (cases_arc h v p) [ inl arc ↦ absurd (none arc) | inr free ↦ free.1 ]

  flags-edited : FlagsRedundant h flags
  flags-edited u r = elim (decides u) [
    | inl near ↦ (added u near).0 r
    | inr far ↦ far_flagged u far r
  ]

-- what drops the useful alone keeps each redundant dummy
pub redundant_kept : (g : Graph) (old new : List Bool) → DropsUseful g old new → FlagsRedundant g old → FlagsRedundant g new
redundant_kept g old new drops has t r = drops.redundant t (has t r) r

-- and so does what adds numbers
pub redundant_more : (g : Graph) (old new : List Bool) → FlagsMore old new → FlagsRedundant g old → FlagsRedundant g new
redundant_more g old new adds has t r = adds.kept t (has t r)

-- where all dummies are watched, each redundant one is
pub redundant_added : (g : Graph) (flags : List Bool) → ((t : ℕ) → IsDummy g t → IsFlagged flags t) → FlagsRedundant g flags
redundant_added g flags added t r = added t (redundant_is_dummy g t r)

-- after the deletion of a transition
pub flags-without_trans : (g : Graph) (t : ℕ) (flags : List Bool) → FlagsRedundant g flags → FlagsRedundant (without_trans g t) flags
flags-without_trans g t flags has u r = has u (redundant-without_trans g t u r)

-- after the deletion of a place, for the dummies that had an arc with it
pub flags-without_place : (g : Graph) (p : ℕ) (flags : List Bool)
    → ((v : ℕ) → HasArc g v p → IsFlaggedWithSame (without_place g p) flags v) → FlagsRedundant g flags
    → FlagsRedundant (without_place g p) flags
flags-without_place g p =
    flags-edited g (without_place g p) (λ u. HasArc g u p) decides (dummy-without_place g p) (λ u d far. same-without_place g p u far)
  where
    decides : (u : ℕ) → HasArc g u p ⊎ (¬ HasArc g u p)
    decides u = elim (cases_arc g u p) [ inl arc ↦ inl arc | inr free ↦ inr (no_arc g u p free) ]

-- after a contraction, for its neighbours
pub flags-contracted : (g : Graph) (t : ℕ) (flags : List Bool)
    → ((v : ℕ) → AreNeighbours g t v → IsFlaggedWithSame (contracted g t) flags v) → FlagsRedundant g flags
    → FlagsRedundant (contracted g t) flags
flags-contracted g t =
    flags-edited g (contracted g t) (AreNeighbours g t) (cases_neighbours g t) (λ u d. (dummy-contracted g t u d).0)
    (λ u d far. let b = dummy-contracted g t u d in round-contracted g t u b.0.live b.1 far)
