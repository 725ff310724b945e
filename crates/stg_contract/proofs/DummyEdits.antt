-- Which dummies an edit can have made contractible: those alone that have an arc with a place at which it is.
use Rattle.std.proofs.Common.{◌≡◌, ◌≢◌, ◌+◌, map, ℕ, true, List, length, Option, Some, None, IsTrue, sym, ◌∙◌, inl, inr, arith}
use Rattle.std.proofs.lemmas.Bool.{cases_Bool, false≢true}
use Rattle.std.proofs.lemmas.List.{length-append, length-map, length-set}
use Rattle.std.proofs.lemmas.List.FromFn.{length-map-range_with_len}
use Rattle.stg_net.specs.Graph.{Graph, FullName, IsDummy, full_name_at, has_signal_of, is_among, place_numbers, takes, gives}
use Rattle.stg_net.specs.Contraction.{contracted, without_place, without_trans, without_arcs_of, remaining_place, pair_place, pairs_round}
use Rattle.stg_laws.specs.Conflict.{HasNoAutoConflict}
use Rattle.stg_laws.specs.Secure.{IsSecure}
use Rattle.stg_edit.specs.Replacing.{new_places}
use Rattle.stg_contract.specs.Neighbours.{HasArc, AreNeighbours, MayContract}
use Rattle.stg_contract.proofs.SameRound.{AreSameRound, may_contract-round, turned}
use Rattle.stg_contract.proofs.RoundEdits.{cases_arc, round-without_place, round-without_trans, round-contracted, new_places-round, dummy-without_place, dummy-without_trans, dummy-contracted}

free : (g : Graph) (u p : ℕ) → ¬ HasArc g u p → (takes g u p ≡ 0) × (gives g u p ≡ 0)
free g u p none = elim (cases_arc g u p) [ inl a ↦ absurd (none a) | inr f ↦ f ]

-- the deletion of a place changes nothing round a dummy without an arc with it
pub same-without_place : (g : Graph) (p u : ℕ) → ¬ HasArc g u p → AreSameRound g (without_place g p) u
same-without_place g p u none = round-without_place g p u (free g u p none)

-- so it makes no such dummy contractible
pub may_contract-without_place : (g : Graph) (p u : ℕ) → HasNoAutoConflict g
    → IsDummy (without_place g p) u → ¬ HasArc g u p → MayContract (without_place g p) u
    → MayContract g u
may_contract-without_place g p u calm d none may =
    may_contract-round g (without_place g p) u (same-without_place g p u none) calm (dummy-without_place g p u d) d may

-- nor does it hinder one
pub may_contract-with_place : (g : Graph) (p u : ℕ) → HasNoAutoConflict (without_place g p)
    → IsDummy (without_place g p) u → ¬ HasArc g u p → MayContract g u
    → MayContract (without_place g p) u
may_contract-with_place g p u calm d none may =
    let same = same-without_place g p u none in
    may_contract-round (without_place g p) g u (turned g (without_place g p) u same) calm d (dummy-without_place g p u d) may

-- the contraction of such a dummy makes as many places
pub new_places-without_place : (g : Graph) (p u : ℕ) → ¬ HasArc g u p
    → new_places (without_place g p) u ≡ new_places g u
new_places-without_place g p u none =
    new_places-round g (without_place g p) u (omega (arith, length-set g.places p None)) (same-without_place g p u none)

-- the deletion of a transition makes no dummy contractible that isn't its neighbour
pub may_contract-without_trans : (g : Graph) (t u : ℕ) → HasNoAutoConflict g
    → IsDummy (without_trans g t) u → ¬ AreNeighbours g t u → MayContract (without_trans g t) u
    → MayContract g u
may_contract-without_trans g t u calm d apart may =
    let before = dummy-without_trans g t u d in
    may_contract-round g (without_trans g t) u (round-without_trans g t u before.1 apart) calm before.0 d may

-- nor does it hinder one
pub may_contract-with_trans : (g : Graph) (t u : ℕ) → HasNoAutoConflict (without_trans g t)
    → IsDummy (without_trans g t) u → ¬ AreNeighbours g t u → MayContract g u
    → MayContract (without_trans g t) u
may_contract-with_trans g t u calm d apart may =
    let before = dummy-without_trans g t u d in
    let same = round-without_trans g t u before.1 apart in
    may_contract-round (without_trans g t) g u (turned g (without_trans g t) u same) calm d before.0 may

-- the contraction of such a dummy makes as many places
pub new_places-without_trans : (g : Graph) (t u : ℕ) → u ≢ t → ¬ AreNeighbours g t u
    → new_places (without_trans g t) u ≡ new_places g u
new_places-without_trans g t u other apart =
    new_places-round g (without_trans g t) u (omega (arith, length-map g.places (without_arcs_of t))) (round-without_trans g t u other apart)

-- a contraction makes no dummy contractible that isn't a neighbour of the one that is contracted
pub may_contract-contracted : (g : Graph) (t u : ℕ) → HasNoAutoConflict g
    → IsDummy (contracted g t) u → ¬ AreNeighbours g t u → MayContract (contracted g t) u
    → MayContract g u
may_contract-contracted g t u calm d apart may =
    let before = dummy-contracted g t u d in
    may_contract-round g (contracted g t) u (round-contracted g t u before.0.live before.1 apart) calm before.0 d may

-- nor does it hinder one
pub may_contract-with_contracted : (g : Graph) (t u : ℕ) → HasNoAutoConflict (contracted g t)
    → IsDummy (contracted g t) u → ¬ AreNeighbours g t u → MayContract g u
    → MayContract (contracted g t) u
may_contract-with_contracted g t u calm d apart may =
    let before = dummy-contracted g t u d in
    let same = round-contracted g t u before.0.live before.1 apart in
    may_contract-round (contracted g t) g u (turned g (contracted g t) u same) calm d before.0 may

-- the contraction of such a dummy makes as many places
pub new_places-contracted : (g : Graph) (t u : ℕ) → IsDummy (contracted g t) u → ¬ AreNeighbours g t u
    → new_places (contracted g t) u ≡ new_places g u
new_places-contracted g t u d apart =
    let before = dummy-contracted g t u d in
    let old = map_remaining g t in
    new_places-round g (contracted g t) u (omega (arith, old)) (round-contracted g t u before.0.live before.1 apart)
  where
    map_remaining : (g : Graph) (t : ℕ) → length (contracted g t).places ≡ length g.places + length (pairs_round g t)
    map_remaining g t =
        length-append (map (remaining_place g t) (place_numbers g)) (map (pair_place g t) (pairs_round g t))
        ∙ (λ i. length-map-range_with_len (remaining_place g t) 0 (length g.places) i + length-map (pairs_round g t) (pair_place g t) i)

-- these signals are known too
abbrev KnowsAll : Graph → List (List ℕ) → Type 0
KnowsAll g known = (s : List ℕ) → IsTrue (is_among g.known s) → IsTrue (is_among known s)

module _ (g : Graph) (known : List (List ℕ)) (more : KnowsAll g known) where
  -- what was known is so
  pub known-shown : (o : Option FullName) → has_signal_of g.known o ≡ true → has_signal_of known o ≡ true
  known-shown None e = e
  known-shown (Some x) e = more x.signal e

  -- where more signals are known, no transition becomes a dummy
  pub dummy-shown : (u : ℕ) → IsDummy (record g { known = known }) u → IsDummy g u
  dummy-shown u d = record {
    live = d.live;
    hidden = elim (cases_Bool (has_signal_of g.known (full_name_at g u))) [
      | inr e ↦ e
      | inl e ↦ absurd (false≢true (sym d.hidden ∙ known-shown (full_name_at g u) e))
    ];
  }

  -- and none becomes contractible
  pub may_contract-shown : (u : ℕ) → MayContract (record g { known = known }) u → MayContract g u
  may_contract-shown u may = record {
    contraction = record {
      pure_ordinary = record { pure = may.contraction.pure_ordinary.pure; takes_one = may.contraction.pure_ordinary.takes_one; gives_one = may.contraction.pure_ordinary.gives_one };
      secure = secure may.contraction.secure;
    };
    no_conflict = λ v w r c. may.no_conflict v w r (record {
      rivals = record {
        differ = c.rivals.differ;
        t_known = known-shown (full_name_at (contracted g u) v) c.rivals.t_known;
        u_known = known-shown (full_name_at (contracted g u) w) c.rivals.u_known;
        t_name = c.rivals.t_name;
        u_name = c.rivals.u_name;
        t_has = c.rivals.t_has;
        u_has = c.rivals.u_has;
        same = c.rivals.same;
      };
      t_takes = c.t_takes;
      u_takes = c.u_takes;
    });
  }
    where
      secure : IsSecure (record g { known = known }) u → IsSecure g u
      secure (inl one) = inl one
      secure (inr two) = inr (record { alone = two.alone; empty = two.empty; after = two.after; no_tokens = two.no_tokens })
