-- The transitions that clash once a dummy is contracted are those that the search goes through.
use Rattle.std.proofs.Common.{◌≡◌, ◌≢◌, ◌<◌, ◌⊎◌, ℕ, length, Option, Some, None, sym, ap, ◌∙◌, subst, inl, inr, arith}
use Rattle.std.proofs.lemmas.Bool.{cases_lt, cases_order, false≢true}
use Rattle.stg_net.specs.Graph.{Graph, IsDummy, IsKnown, takes, gives}
use Rattle.stg_net.specs.Contraction.{contracted}
use Rattle.stg_edit.specs.Walks.{taken_places, given_places, taking_trans}
use Rattle.stg_laws.specs.Deterministic.{AreRivals}
use Rattle.stg_laws.specs.Conflict.{IsAutoConflict, HasNoAutoConflict}
use Rattle.stg_laws.proofs.Origins.{Origin, NoPlace, OldPlace, PairPlace, sum_over, IsOriginAt}
use Rattle.stg_laws.proofs.ContractedOrigins.{contracted-IsContraction}
use Rattle.stg_laws.proofs.ContractionLaws.{rivals_before}
use Rattle.stg_laws.proofs.Names.{live_from}
use Rattle.stg_contract.specs.Verdicts.{AreClashing}
use Rattle.stg_contract.specs.inner.Searches.{IsLeastClashOf, ordered_rivals, least_round, least_at_left}
use Rattle.stg_edit.proofs.LiveEnds.{taken_is_place, given_is_place}
use Rattle.stg_contract.proofs.WeightLists.{Found, one_to, one_from}
use Rattle.stg_contract.proofs.DummyTests.{taken_below, given_below, live_below}
use Rattle.stg_contract.proofs.LeftPlaces.{IsLeft, left_found, left_there, left_stands}
use Rattle.stg_contract.proofs.LeastSearch.{IsLeastOf, OrOne, OrAtLeft, Clashes, ClashesIn, ClashesAt, ClashesAfter, AtLeft, least_before-is, least_left_below-is, least_same}
use Rattle.stg_contract.proofs.RivalTests.{IsClashOf, clash_found, clash_there, known_live, rivals_turned}

-- one of two rivals takes from a place before t, the other one from a place after it
pub record Meet (g : Graph) (t u v : ℕ) : Type 0 where
  pub rivals : AreRivals g u v
  pub before : ℕ
  pub after : ℕ
  pub taken : 0 < takes g t before
  pub given : 0 < gives g t after
  pub u_takes : 0 < takes g u before
  pub v_takes : 0 < takes g v after

-- both take from one place that is left
pub record MeetLeft (g : Graph) (t u v : ℕ) : Type 0 where
  pub rivals : AreRivals g u v
  pub place : ℕ
  pub left : IsLeft g t place
  pub u_takes : 0 < takes g u place
  pub v_takes : 0 < takes g v place

-- what the search round t goes through
abbrev InRound : Graph → ℕ → ℕ × ℕ → Type 0
InRound g t y = OrOne (λ y. ⊥) (ClashesAfter g (given_places g t)) (taken_places g t) y

-- two numbers, the lesser first, for which P holds in one of the two orders
abbrev InOrder : (ℕ → ℕ → Type 0) → ℕ × ℕ → Type 0
InOrder P y = (P y.0 y.1 ⊎ P y.1 y.0) × (y.0 < y.1)

turn_to : (P : ℕ → ℕ → Type 0) (g : Graph) (u v : ℕ) (y : ℕ × ℕ) → IsClashOf g u v y → P u v → InOrder P y
turn_to P g u v y c m = (
  elim c.is [
    | inl e ↦ inl (subst (λ a. P a y.1) (sym e.0) (subst (λ b. P u b) (sym e.1) m))
    | inr e ↦ inr (subst (λ a. P a y.0) (sym e.1) (subst (λ b. P u b) (sym e.0) m))
  ],
  c.ascends,
)

round_found : (g : Graph) (t : ℕ) (y : ℕ × ℕ) → InRound g t y → InOrder (Meet g t) y
round_found g t y (inl n) = absurd n
round_found g t y (inr o) =
    let p = one_to (λ x. ClashesAfter g (given_places g t) x y) (takes g t) (length g.places) 0 o in
    let q = one_to (λ x. ClashesAt g p.number x y) (gives g t) (length g.places) 0 p.holds in
    let u = one_to (λ x. ClashesIn g (taking_trans g q.number) x y) (λ u. takes g u p.number) (length g.trans) 0 q.holds in
    let v = one_to (λ x. Clashes g u.number x y) (λ u. takes g u q.number) (length g.trans) 0 u.holds in
    let c = clash_found g u.number v.number y v.holds in
    turn_to (Meet g t) g u.number v.number y c (record { rivals = c.rivals; before = p.number; after = q.number; taken = p.some; given = q.some; u_takes = u.some; v_takes = v.some })

left_found_at : (g : Graph) (t : ℕ) (y : ℕ × ℕ) → AtLeft g t (length g.places) y → InOrder (MeetLeft g t) y
left_found_at g t y at =
    let p = at.place in
    let u = one_to (λ x. ClashesIn g (taking_trans g p) x y) (λ u. takes g u p) (length g.trans) 0 at.clashes in
    let v = one_to (λ x. Clashes g u.number x y) (λ u. takes g u p) (length g.trans) 0 u.holds in
    let c = clash_found g u.number v.number y v.holds in
    turn_to (MeetLeft g t) g u.number v.number y c (record { rivals = c.rivals; place = p; left = left_found g t p at.left; u_takes = u.some; v_takes = v.some })

-- two takers of p and of q that give y
clash_at : (g : Graph) (u v p q : ℕ) (y : ℕ × ℕ) → AreRivals g u v → 0 < takes g u p → 0 < takes g v q
    → ordered_rivals g u v ≡ Some y → ClashesAt g p (q, 0) y
clash_at g u v p q y rivals up vq e =
    let in_v : Found (λ x. Clashes g u x y) (λ w. takes g w q) 0 (length g.trans) =
    record { number = v; low = omega arith; high = omega (arith, live_below g v (known_live g v rivals.u_known)); some = vq; holds = e } in
    let in_u : Found (λ x. ClashesIn g (taking_trans g q) x y) (λ w. takes g w p) 0 (length g.trans) =
    record { number = u; low = omega arith; high = omega (arith, live_below g u (known_live g u rivals.t_known)); some = up; holds = one_from (λ x. Clashes g u x y) (λ w. takes g w q) (length g.trans) 0 in_v } in
    one_from (λ x. ClashesIn g (taking_trans g q) x y) (λ w. takes g w p) (length g.trans) 0 in_u

round_there : (g : Graph) (t u v : ℕ) (y : ℕ × ℕ) → Meet g t u v → ordered_rivals g u v ≡ Some y → InRound g t y
round_there g t u v y m e =
    let in_q : Found (λ x. ClashesAt g m.before x y) (gives g t) 0 (length g.places) =
    record { number = m.after; low = omega arith; high = omega (arith, given_below g t m.after m.given); some = m.given; holds = clash_at g u v m.before m.after y m.rivals m.u_takes m.v_takes e } in
    let in_p : Found (λ x. ClashesAfter g (given_places g t) x y) (takes g t) 0 (length g.places) =
    record { number = m.before; low = omega arith; high = omega (arith, taken_below g t m.before m.taken); some = m.taken; holds = one_from (λ x. ClashesAt g m.before x y) (gives g t) (length g.places) 0 in_q } in
    inr (one_from (λ x. ClashesAfter g (given_places g t) x y) (takes g t) (length g.places) 0 in_p)

left_there_at : (g : Graph) (t u v : ℕ) (y : ℕ × ℕ) → MeetLeft g t u v → ordered_rivals g u v ≡ Some y
    → AtLeft g t (length g.places) y
left_there_at g t u v y m e = record {
  place = m.place;
  below = taken_below g u m.place m.u_takes;
  left = left_there g t m.place m.left;
  clashes = clash_at g u v m.place m.place y m.rivals m.u_takes m.v_takes e;
}

module _ (g : Graph) (t : ℕ) (dummy : IsDummy g t) where
  -- rivals meet round t, in one order or the other, or at a place that is left
  abbrev pub Meets : ℕ → ℕ → Type 0
  Meets u v = (Meet g t u v ⊎ Meet g t v u) ⊎ MeetLeft g t u v

  by_origin : (u v : ℕ) (o : Origin) → IsOriginAt g t o → AreRivals g u v → 0 < sum_over o (takes g u)
      → 0 < sum_over o (takes g v) → Meets u v
  by_origin u v NoPlace f rivals a b = absurd (omega (arith, a))
  by_origin u v (OldPlace p) f rivals a b =
      inr (record { rivals = rivals; place = p; left = record { live = taken_is_place g u p a; stays = inl f }; u_takes = a; v_takes = b })
  by_origin u v (PairPlace p q) f rivals a b = elim (cases_lt 0 (takes g u p)) [
    | inl up ↦ elim (cases_lt 0 (takes g v p)) [
      | inl vp ↦ inr (record { rivals = rivals; place = p; left = record { live = taken_is_place g t p f.0; stays = inr (record { before = p; after = q; taken = f.0; given = f.1 }) }; u_takes = up; v_takes = vp })
      | inr none ↦ inl (inl (record { rivals = rivals; before = p; after = q; taken = f.0; given = f.1; u_takes = up; v_takes = omega (arith, b, none) }))
    ]
    | inr none ↦ let uq : 0 < takes g u q = omega (arith, a, none) in elim (cases_lt 0 (takes g v q)) [
      | inl vq ↦ inr (record { rivals = rivals; place = q; left = record { live = given_is_place g t q f.1; stays = inr (record { before = p; after = q; taken = f.0; given = f.1 }) }; u_takes = uq; v_takes = vq })
      | inr free ↦ inl (inr (record { rivals = rivals_turned g u v rivals; before = p; after = q; taken = f.0; given = f.1; u_takes = omega (arith, b, free); v_takes = uq }))
    ]
  ]

  -- a clash of the contracted graph is of rivals that meet
  pub clash_meets : (u v r : ℕ) → IsAutoConflict (contracted g t) u v r → Meets u v
  clash_meets u v r c =
      let k = contracted-IsContraction g t in
      let u_other = k.gone u (live_from (contracted g t) u c.rivals.t_name c.rivals.t_has) in
      let v_other = k.gone v (live_from (contracted g t) v c.rivals.u_name c.rivals.u_has) in
      let rivals = rivals_before g (contracted g t) t k u v u_other v_other c.rivals in
      let tu = k.taken u r (known_live g u rivals.t_known) u_other in
      let tv = k.taken v r (known_live g v rivals.u_known) v_other in
      by_origin u v (k.origin r) (k.around r) rivals (omega (arith, tu, c.t_takes)) (omega (arith, tv, c.u_takes))

  -- what is known isn't t
  known_other : (u : ℕ) → IsKnown g u → u ≢ t
  known_other u known e = let k : IsKnown g t = subst (IsKnown g) e known in false≢true (sym dummy.hidden ∙ k)

  -- rivals that take from one place of the contracted graph clash there
  clash_from : (u v r : ℕ) → AreRivals g u v
      → 0 < sum_over ((contracted-IsContraction g t).origin r) (takes g u)
      → 0 < sum_over ((contracted-IsContraction g t).origin r) (takes g v)
      → IsAutoConflict (contracted g t) u v r
  clash_from u v r rivals up vp =
      let k = contracted-IsContraction g t in
      let u_other = known_other u rivals.t_known in
      let v_other = known_other v rivals.u_known in
      record {
        rivals = record {
          differ = rivals.differ;
          t_known = rw (k.known, k.names u u_other) rivals.t_known;
          u_known = rw (k.known, k.names v v_other) rivals.u_known;
          t_name = rivals.t_name;
          u_name = rivals.u_name;
          t_has = k.names u u_other ∙ rivals.t_has;
          u_has = k.names v v_other ∙ rivals.u_has;
          same = rivals.same;
        };
        t_takes = omega (arith, k.taken u r (known_live g u rivals.t_known) u_other, up);
        u_takes = omega (arith, k.taken v r (known_live g v rivals.u_known) v_other, vp);
      }

  pub meet_clash : (u v : ℕ) → Meet g t u v → (r : ℕ) × IsAutoConflict (contracted g t) u v r
  meet_clash u v m =
      let o = (contracted-IsContraction g t).pair m.before m.after m.taken m.given in
      (o.0, clash_from u v o.0 m.rivals (omega (arith, ap (λ x. sum_over x (takes g u)) o.1, m.u_takes)) (omega (arith, ap (λ x. sum_over x (takes g v)) o.1, m.v_takes)))

  left_clash : (u v : ℕ) → MeetLeft g t u v → (r : ℕ) × IsAutoConflict (contracted g t) u v r
  left_clash u v m =
      let s = left_stands g t m.place m.left in
      (s.place, clash_from u v s.place m.rivals (omega (arith, s.covers (takes g u), m.u_takes)) (omega (arith, s.covers (takes g v), m.v_takes)))

  turned : (u v r : ℕ) → IsAutoConflict (contracted g t) u v r → IsAutoConflict (contracted g t) v u r
  turned u v r c = record { rivals = rivals_turned (contracted g t) u v c.rivals; t_takes = c.u_takes; u_takes = c.t_takes }

  -- rivals that clash in one of the two orders
  in_order : (P : ℕ → ℕ → Type 0) → ((u v : ℕ) → P u v → (r : ℕ) × IsAutoConflict (contracted g t) u v r)
      → (y : ℕ × ℕ) → InOrder P y → AreClashing (contracted g t) y.0 y.1
  in_order P clash y o = elim o.0 [
    | inl m ↦ let c = clash y.0 y.1 m in record { place = c.0; clash = record { conflict = c.1; ascends = o.1 } }
    | inr m ↦ let c = clash y.1 y.0 m in record { place = c.0; clash = record { conflict = turned y.1 y.0 c.0 c.1; ascends = o.1 } }
  ]

  -- all that the two searches go through
  abbrev Searched : ℕ × ℕ → Type 0
  Searched y = OrAtLeft (InRound g t) g t (length g.places) y

  comes : (y : ℕ × ℕ) → Searched y → AreClashing (contracted g t) y.0 y.1
  comes y (inl o) = in_order (Meet g t) meet_clash y (round_found g t y o)
  comes y (inr at) = in_order (MeetLeft g t) left_clash y (left_found_at g t y at)

  goes : (y : ℕ × ℕ) → AreClashing (contracted g t) y.0 y.1 → Searched y
  goes y c = elim (clash_meets y.0 y.1 c.place c.clash.conflict) [
    | inl (inl m) ↦ inl (round_there g t y.0 y.1 y m (clash_there g y.0 y.1 m.rivals c.clash.ascends).0)
    | inl (inr m) ↦ inl (round_there g t y.1 y.0 y m (clash_there g y.0 y.1 (rivals_turned g y.1 y.0 m.rivals) c.clash.ascends).1)
    | inr m ↦ inr (left_there_at g t y.0 y.1 y m (clash_there g y.0 y.1 m.rivals c.clash.ascends).0)
  ]

  least_clash : (o : Option (ℕ × ℕ)) → IsLeastOf (λ y. AreClashing (contracted g t) y.0 y.1) o
      → IsLeastClashOf (contracted g t) o
  least_clash (Some x) least = record { clashing = least.0; least = λ v w c. least.1 (v, w) c }
  least_clash None none = λ u v r c. elim (cases_order u v) [
    | inl same ↦ c.rivals.differ same
    | inr (inl l) ↦ none (u, v) (record { place = r; clash = record { conflict = c; ascends = l } })
    | inr (inr l) ↦ none (v, u) (record { place = r; clash = record { conflict = turned u v r c; ascends = l } })
  ]

  round_least : IsLeastOf (InRound g t) (least_round g t)
  round_least = least_before-is g (given_places g t) (λ y. ⊥) None (taken_places g t) (λ y n. n)

  -- both searches together find the least clash
  pub far_least : IsLeastClashOf (contracted g t) (least_at_left g t (least_round g t))
  far_least = least_clash _ (least_same Searched (λ y. AreClashing (contracted g t) y.0 y.1) _ comes goes (least_left_below-is g t (InRound g t) (least_round g t) (length g.places) round_least))

  -- in a graph without structural auto-conflicts that round t finds it alone
  pub near_least : HasNoAutoConflict g → IsLeastClashOf (contracted g t) (least_round g t)
  near_least none = least_clash _ (least_same (InRound g t) (λ y. AreClashing (contracted g t) y.0 y.1) _ (λ y o. comes y (inl o)) (λ y c. near y (goes y c)) round_least)
    where
      conflict : (u v : ℕ) → MeetLeft g t u v → ⊥
      conflict u v m = none u v m.place (record { rivals = m.rivals; t_takes = m.u_takes; u_takes = m.v_takes })

      near : (y : ℕ × ℕ) → Searched y → InRound g t y
      near y (inl o) = o
      near y (inr at) = elim (left_found_at g t y at).0 [ inl m ↦ absurd (conflict y.0 y.1 m) | inr m ↦ absurd (conflict y.1 y.0 m) ]
