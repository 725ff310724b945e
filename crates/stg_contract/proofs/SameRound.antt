-- What a graph shows round a dummy decides whether it may be contracted, but for numbers.
use Rattle.std.proofs.Common.{◌≡◌, ◌<◌, ℕ, true, false, is_some, sym, ap, ◌∙◌, inl, inr, arith}
use Rattle.std.proofs.lemmas.Bool.{cases_lt}
use Rattle.stg_net.specs.Graph.{Graph, IsTrans, IsDummy, full_name_at, has_signal_of, tokens_at, takes, gives}
use Rattle.stg_net.specs.Contraction.{contracted}
use Rattle.stg_laws.specs.Conflict.{HasNoAutoConflict}
use Rattle.stg_laws.specs.Secure.{IsPureOrdinary, IsType1, IsType2, IsSecure}
use Rattle.stg_contract.specs.Verdicts.{IsVerdict}
use Rattle.stg_contract.specs.declared.verdict.Verdict.{Verdict}
use Rattle.stg_contract.specs.declared.verdict.Verdict.TheVariants.{Type1, Type2, Loop, Weight, Insecure, Clash, Places, Large}
use Rattle.stg_contract.specs.Neighbours.{HasArc, MayContract, is_open}
use Rattle.stg_contract.proofs.ContractedClashes.{Meet, clash_meets, meet_clash}

-- g and h have the same arcs of u, and the same arcs, tokens and names at its places
pub record AreSameRound (g h : Graph) (u : ℕ) : Type 0 where
  pub taken : (p : ℕ) → takes h u p ≡ takes g u p
  pub given : (p : ℕ) → gives h u p ≡ gives g u p
  pub all_taken : (v p : ℕ) → HasArc g u p → takes h v p ≡ takes g v p
  pub all_given : (v p : ℕ) → HasArc g u p → gives h v p ≡ gives g v p
  pub tokens : (p : ℕ) → HasArc g u p → tokens_at h p ≡ tokens_at g p
  pub names : (v p : ℕ) → HasArc g u p → HasArc g v p → full_name_at h v ≡ full_name_at g v
  pub known : h.known ≡ g.known

module _ (g h : Graph) (u : ℕ) (same : AreSameRound g h u) where
  -- an arc of u before is one after
  pub arc_after : (p : ℕ) → HasArc g u p → HasArc h u p
  arc_after p (inl l) = inl (omega (arith, l, same.taken p))
  arc_after p (inr l) = inr (omega (arith, l, same.given p))

  -- and the other way round
  pub arc_before : (p : ℕ) → HasArc h u p → HasArc g u p
  arc_before p (inl l) = inl (omega (arith, l, same.taken p))
  arc_before p (inr l) = inr (omega (arith, l, same.given p))

  all_before : (v p : ℕ) → HasArc g u p → HasArc h v p → HasArc g v p
  all_before v p a (inl l) = inl (omega (arith, l, same.all_taken v p a))
  all_before v p a (inr l) = inr (omega (arith, l, same.all_given v p a))

  -- what is the same in one direction is so in the other
  pub turned : AreSameRound h g u
  turned = record {
    taken = λ p. sym (same.taken p);
    given = λ p. sym (same.given p);
    all_taken = λ v p a. sym (same.all_taken v p (arc_before p a));
    all_given = λ v p a. sym (same.all_given v p (arc_before p a));
    tokens = λ p a. sym (same.tokens p (arc_before p a));
    names = λ v p a b. sym (same.names v p (arc_before p a) (all_before v p (arc_before p a) b));
    known = sym same.known;
  }

  pure_before : IsPureOrdinary h u → IsPureOrdinary g u
  pure_before o = record {
    pure = λ p some. omega (arith, same.given p, o.pure p (omega (arith, some, same.taken p)));
    takes_one = λ p. omega (arith, same.taken p, o.takes_one p);
    gives_one = λ p. omega (arith, same.given p, o.gives_one p);
  }

  live_after : (v p : ℕ) → HasArc g u p → HasArc g v p → IsTrans g v → IsTrans h v
  live_after v p a b live = ap is_some (same.names v p a b) ∙ live

  type1_before : IsType1 h u → IsType1 g u
  type1_before one v p live other some = elim (cases_lt 0 (takes g v p)) [
    | inr none ↦ omega (arith, none)
    | inl l ↦
        let none = one v p (live_after v p (inl some) (inl l) live) other (omega (arith, some, same.taken p)) in
        omega (arith, none, same.all_taken v p (inl some))
  ]

  type2_before : IsType2 h u → IsType2 g u
  type2_before two =
      let after : 0 < gives g u two.empty = omega (arith, two.after, same.given two.empty) in record {
        alone = λ v q live other some. elim (cases_lt 0 (gives g v q)) [
          | inr none ↦ omega (arith, none)
          | inl l ↦
              let none = two.alone v q (live_after v q (inr some) (inr l) live) other (omega (arith, some, same.given q)) in
              omega (arith, none, same.all_given v q (inr some))
        ];
        empty = two.empty;
        after = after;
        no_tokens = omega (arith, two.no_tokens, same.tokens two.empty (inr after));
      }

  secure_before : IsSecure h u → IsSecure g u
  secure_before (inl one) = inl (type1_before one)
  secure_before (inr two) = inr (type2_before two)

  known_after : (v p : ℕ) → HasArc g u p → HasArc g v p → has_signal_of g.known (full_name_at g v) ≡ true
      → has_signal_of h.known (full_name_at h v) ≡ true
  known_after v p a b known = (λ i. has_signal_of (same.known i) (same.names v p a b i)) ∙ known

  meet_after : (v w : ℕ) → Meet g u v w → Meet h u v w
  meet_after v w m = record {
    rivals = record {
      differ = m.rivals.differ;
      t_known = known_after v m.before (inl m.taken) (inl m.u_takes) m.rivals.t_known;
      u_known = known_after w m.after (inr m.given) (inl m.v_takes) m.rivals.u_known;
      t_name = m.rivals.t_name;
      u_name = m.rivals.u_name;
      t_has = same.names v m.before (inl m.taken) (inl m.u_takes) ∙ m.rivals.t_has;
      u_has = same.names w m.after (inr m.given) (inl m.v_takes) ∙ m.rivals.u_has;
      same = m.rivals.same;
    };
    before = m.before;
    after = m.after;
    taken = omega (arith, m.taken, same.taken m.before);
    given = omega (arith, m.given, same.given m.after);
    u_takes = omega (arith, m.u_takes, same.all_taken v m.before (inl m.taken));
    v_takes = omega (arith, m.v_takes, same.all_taken w m.after (inr m.given));
  }

  no_meet : (v w : ℕ) → IsDummy h u → HasNoAutoConflict (contracted h u) → ¬ Meet g u v w
  no_meet v w dummy none m = let c = meet_clash h u dummy v w (meet_after v w m) in none v w c.0 c.1

  -- so what may be contracted in one may be in the other
  pub may_contract-round : HasNoAutoConflict g → IsDummy g u → IsDummy h u → MayContract h u → MayContract g u
  may_contract-round calm before after may = record {
    contraction = record {
      pure_ordinary = pure_before may.contraction.pure_ordinary;
      secure = secure_before may.contraction.secure;
    };
    no_conflict = λ v w r c. elim (clash_meets g u before v w r c) [
      | inl (inl m) ↦ no_meet v w after may.no_conflict m
      | inl (inr m) ↦ no_meet w v after may.no_conflict m
      | inr m ↦ calm v w m.place (record { rivals = m.rivals; t_takes = m.u_takes; u_takes = m.v_takes })
    ];
  }

-- an open verdict tells that only numbers may speak against the contraction
pub open_may : (g : Graph) (t : ℕ) (v : Verdict) → IsVerdict g t v → is_open v ≡ true → MayContract g t
open_may g t (Places n) r e = record { contraction = r.contraction; no_conflict = r.no_conflict }
open_may g t Large r e = record { contraction = r.contraction; no_conflict = r.no_conflict }
open_may g t Type1 r e = record { contraction = r.0.contraction; no_conflict = r.0.no_conflict }
open_may g t Type2 r e = record { contraction = r.0.contraction; no_conflict = r.0.no_conflict }
open_may g t Loop r e = absurd (cc)
open_may g t Weight r e = absurd (cc)
open_may g t Insecure r e = absurd (cc)
open_may g t (Clash a b) r e = absurd (cc)

-- and every other one that more does
pub not_open : (g : Graph) (t : ℕ) (v : Verdict) → IsVerdict g t v → is_open v ≡ false → ¬ MayContract g t
not_open g t Loop r e m = omega (arith, m.contraction.pure_ordinary.pure r.place r.taken, r.given)
not_open g t Weight r e m = elim r.1.above [
  | inl l ↦ absurd (omega (arith, m.contraction.pure_ordinary.takes_one r.1.place, l))
  | inr l ↦ absurd (omega (arith, m.contraction.pure_ordinary.gives_one r.1.place, l))
]
not_open g t Insecure r e m = r.1 m.contraction.secure
not_open g t (Clash a b) r e m = m.no_conflict a b r.1.clashing.place r.1.clashing.clash.conflict
not_open g t (Places n) r e m = absurd (cc)
not_open g t Large r e m = absurd (cc)
not_open g t Type1 r e m = absurd (cc)
not_open g t Type2 r e m = absurd (cc)
