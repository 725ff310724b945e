-- Which places a deletion or a contraction can have made redundant.
use Rattle.std.proofs.Common.{◌≡◌, ◌⊎◌, ℕ, List, length, get_or, set, Option, Some, None, IsSome, refl, sym, ap, ◌∙◌, subst, inl, inr, arith}
use Rattle.std.proofs.lemmas.Bool.{cases_lt, cases_eq, false≢true}
use Rattle.std.proofs.lemmas.List.{get_or-set_same, set_past, get_or_past}
use Rattle.stg_net.specs.Graph.{Graph, Place, IsPlace, place_at, tokens_in, taken_by, given_by, takes, gives}
use Rattle.stg_net.specs.Contraction.{without_place, without_arcs_of, without_trans}
use Rattle.stg_laws.specs.RedundantPlaces.{IsRedundantPlace}
use Rattle.stg_laws.proofs.PlaceDeletion.{place_at-other, place_at-gone}
use Rattle.stg_laws.proofs.TransDeletion.{without_trans-IsWithout, place_at-without_trans}
use Rattle.stg_redundant.specs.Watching.{IsNearPlace, HasLinkAmong, itself, IsReachedByDeletion}
use Rattle.stg_redundant.proofs.RuleTests.{redundant_live}
use Rattle.stg_redundant.proofs.EditedPlaces.{IsSameIn, link_live, link_leads, stays_in_reach, redundant_before}

-- a place that stands the same in both graphs is the same
pub stands_same : (g h : Graph) (p : ℕ) → place_at h p ≡ place_at g p → IsPlace h p → IsSameIn g h p
stands_same g h p e live = record {
  live = subst IsSome e live;
  tokens = ap tokens_in e;
  taken = λ t. ap (taken_by t) e;
  given = λ t. ap (given_by t) e;
}

-- the deletion of a place makes no other place redundant
pub place_deletion_reaches_none : (g : Graph) (p q : ℕ) → IsRedundantPlace (without_place g p) q
    → IsRedundantPlace g q
place_deletion_reaches_none g p = redundant_before g (without_place g p) (λ r live. elim (cases_eq r p) [
  | inl e ↦ absurd (gone r e live)
  | inr other ↦ stands_same g (without_place g p) r (place_at-other g p r other) live
])
  where
    gone : (r : ℕ) → r ≡ p → IsPlace (without_place g p) r → ⊥
    gone r e live = false≢true (rw (place_at-gone g p) at (let l : IsPlace (without_place g p) p = subst (IsPlace (without_place g p)) e live in l))

-- other known signals make no place redundant
pub known_signals_reach_none : (g : Graph) (known : List (List ℕ)) (q : ℕ)
    → IsRedundantPlace (record g { known = known }) q → IsRedundantPlace g q
known_signals_reach_none g known = redundant_before g (record g { known = known })
    (λ r live. stands_same g (record g { known = known }) r refl live)

-- without t, a place has no arc with it
pub own_arcs_gone : (t : ℕ) (o : Option Place) → (taken_by t (without_arcs_of t o) ≡ 0) × (given_by t (without_arcs_of t o) ≡ 0)
own_arcs_gone t None = (refl, refl)
own_arcs_gone t (Some x) = (zero_there x.taken, zero_there x.given)
  where
    zero_there : (xs : List ℕ) → get_or (set xs t 0) t 0 ≡ 0
    zero_there xs = elim (cases_lt t (length xs)) [
      | inl below ↦ get_or-set_same xs t 0 0 below
      | inr past ↦ rw (set_past xs t 0 past) (get_or_past xs t 0 past)
    ]

-- what is live without the arcs of t is live with them
live_with_arcs : (t : ℕ) (o : Option Place) → IsSome (without_arcs_of t o) → IsSome o
live_with_arcs t None live = live
live_with_arcs t (Some x) live = refl

module _ (g : Graph) (t : ℕ) where
  -- a place with which t has no arc stays the same without t
  same_without : (p : ℕ) → takes g t p ≡ 0 → gives g t p ≡ 0 → IsPlace (without_trans g t) p
      → IsSameIn g (without_trans g t) p
  same_without p none empty live =
      let k = without_trans-IsWithout g t in
      let at = place_at-without_trans g t p in
      let gone = own_arcs_gone t (place_at g p) in
      record {
        live = live_with_arcs t (place_at g p) (subst IsSome at live);
        tokens = k.tokens p;
        taken = λ u. elim (cases_eq u t) [
          | inl e ↦ subst (λ x. takes (without_trans g t) x p ≡ takes g x p) (sym e) (ap (taken_by t) at ∙ gone.0 ∙ sym none)
          | inr other ↦ k.taken u p other
        ];
        given = λ u. elim (cases_eq u t) [
          | inl e ↦ subst (λ x. gives (without_trans g t) x p ≡ gives g x p) (sym e) (ap (given_by t) at ∙ gone.1 ∙ sym empty)
          | inr other ↦ k.given u p other
        ];
      }

  -- a place that is live without t is near t or stays the same
  near_or_same : (p : ℕ) → IsPlace (without_trans g t) p
      → IsNearPlace g t p ⊎ IsSameIn g (without_trans g t) p
  near_or_same p live = elim (cases_lt 0 (takes g t p)) [
    | inl some ↦ inl (inl some)
    | inr none ↦ elim (cases_lt 0 (gives g t p)) [
      | inl some ↦ inl (inr some)
      | inr empty ↦ inr (same_without p (omega (arith, none)) (omega (arith, empty)) live)
    ]
  ]

  -- what is redundant without t, where nothing was before, is in reach
  pub trans_deletion_reaches : ((p : ℕ) → ¬ IsRedundantPlace g p) → (q : ℕ)
      → IsRedundantPlace (without_trans g t) q → IsReachedByDeletion g t q
  trans_deletion_reaches none q redundant =
      let h = without_trans g t in
      let live = redundant_live h q redundant in
      elim (near_or_same q live) [
        | inl near ↦ itself live near
        | inr s ↦ stays_in_reach g h q (HasLinkAmong h (IsNearPlace g t)) (λ p a b l other. elim (near_or_same p (link_live g h p a b l)) [
          | inl near ↦ inl (record { place = p; one = near; is_link = record { giver = a; taker = b; link = l } })
          | inr r ↦ inr (link_leads g h q a b p r l other)
        ]) (IsNearPlace g t) none near_or_same s redundant
      ]
