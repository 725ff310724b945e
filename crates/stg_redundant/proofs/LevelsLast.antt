-- Levels stay levels where places or transitions are deleted, and where a transition is contracted.
use Rattle.std.proofs.Common.{◌≡◌, ◌≢◌, ◌<◌, ◌≤◌, ◌+◌, ◌*◌, ℕ, length, get_or, cond, eqb, None, eq-eqb, refl, sym, ap, ◌∙◌, subst, inl, inr, arith}
use Rattle.std.proofs.Math.Nat.{mul-add}
use Rattle.std.proofs.lemmas.Bool.{cases_lt, cases_eq}
use Rattle.std.proofs.lemmas.List.{length-set, get_or_past}
use Rattle.std.proofs.lemmas.List.FromFn.{length-map-range_with_len, get_or-map-range_with_len}
use Rattle.stg_net.specs.Graph.{Graph, IsTrans, place_at, tokens_in, taken_by, given_by, tokens_at, takes, gives}
use Rattle.stg_net.specs.Contraction.{each_other, contracted, without_place, without_trans}
use Rattle.stg_laws.specs.Secure.{IsSecure}
use Rattle.stg_laws.proofs.PlaceDeletion.{place_at-other, place_at-gone}
use Rattle.stg_laws.proofs.TransDeletion.{without_trans-IsWithout, place_at-without_trans}
use Rattle.stg_edit.specs.Drafts.{IsWeightlessPastLast, IsWeightlessWhereRemoved}
use Rattle.stg_edit.proofs.LiveEnds.{given_is_place}
use Rattle.stg_contract.proofs.WeightLists.{live_where}
use Rattle.stg_redundant.specs.Levelled.{Levelling, GrowsAcross, IsLevelled}
use Rattle.stg_redundant.proofs.WatchedPlaces.{own_arcs_gone}
use Rattle.stg_redundant.proofs.ContractedPlaces.{StandsForPair, same_contracted, new_place, pair_taken, pair_given, pair_tokens}

-- the giver, the taker and the tokens are those of the place before
record IsPairBefore (g h : Graph) (u t p : ℕ) : Type 0 where
  given : 0 < gives g u p
  taken : 0 < takes g t p
  tokens : tokens_at h p ≡ tokens_at g p

-- where each giver and taker of a place were so before, levels stay
fewer_levelled : (g h : Graph) (v : Levelling) → length h.trans ≡ length g.trans
    → ((u t p : ℕ) → 0 < gives h u p → 0 < takes h t p → IsPairBefore g h u t p)
    → IsLevelled g v → IsLevelled h v
fewer_levelled g h v long before w = record {
  long = w.long ∙ sym long;
  grows = λ p u t given taken.
      let b = before u t p given taken in
      subst (λ k. get_or v.numbers u 0 + v.rise ≤ get_or v.numbers t 0 + v.fall * k) (sym b.tokens) (w.grows p u t b.given b.taken);
}

-- without a place
pub levelled-without_place : (g : Graph) (v : Levelling) (p : ℕ) → IsLevelled g v
    → IsLevelled (without_place g p) v
levelled-without_place g v p = fewer_levelled g (without_place g p) v refl (λ u t q given taken. elim (cases_eq q p) [
  | inl e ↦ absurd (omega (arith, given, ap (gives (without_place g p) u) e, ap (given_by u) (place_at-gone g p)))
  | inr other ↦
      let same = place_at-other g p q other in
      record {
        given = subst (λ o. 0 < given_by u o) same given;
        taken = subst (λ o. 0 < taken_by t o) same taken;
        tokens = ap tokens_in same;
      }
])

-- without a transition
pub levelled-without_trans : (g : Graph) (v : Levelling) (t : ℕ) → IsLevelled g v
    → IsLevelled (without_trans g t) v
levelled-without_trans g v t = fewer_levelled g (without_trans g t) v (length-set g.trans t None) (λ u s p given taken.
    let k = without_trans-IsWithout g t in
    let at = place_at-without_trans g t p in
    let gone = own_arcs_gone t (place_at g p) in
    let u_other : u ≢ t = λ e. omega (arith, given, ap (λ x. gives (without_trans g t) x p) e, ap (given_by t) at, gone.1) in
    let s_other : s ≢ t = λ e. omega (arith, taken, ap (λ x. takes (without_trans g t) x p) e, ap (taken_by t) at, gone.0) in
    record {
      given = omega (arith, given, k.given u p u_other);
      taken = omega (arith, taken, k.taken s p s_other);
      tokens = k.tokens p;
    })

module _ (g : Graph) (v : Levelling) (t : ℕ) (narrow : IsWeightlessPastLast g) (weightless : IsWeightlessWhereRemoved g) (secure : IsSecure g t) (w : IsLevelled g v) where
  module _ (p : ℕ) (pair : StandsForPair g t p) where
    -- t has no arc with the new place
    own_none : (weight : ℕ → ℕ) → get_or (each_other g t weight) t 0 ≡ 0
    own_none weight = elim (cases_lt t (length g.trans)) [
      | inl low ↦ get_or-map-range_with_len (λ u. cond (eqb u t) 0 (weight u)) 0 (length g.trans) t t 0 low (omega arith) ∙ ap (λ b. cond b 0 (weight t)) (eq-eqb t t refl)
      | inr past ↦ get_or_past (each_other g t weight) t 0 (rw (length-map-range_with_len (λ u. cond (eqb u t) 0 (weight u)) 0 (length g.trans)) past)
    ]

    gives_other : (u : ℕ) → 0 < gives (contracted g t) u p → u ≢ t
    gives_other u some e = omega (arith, some, ap (λ x. gives (contracted g t) x p) e, ap (given_by t) pair.is_pair, own_none (λ u. gives g u pair.before + gives g u pair.after))

    takes_other : (u : ℕ) → 0 < takes (contracted g t) u p → u ≢ t
    takes_other u some e = omega (arith, some, ap (λ x. takes (contracted g t) x p) e, ap (taken_by t) pair.is_pair, own_none (λ u. takes g u pair.before + takes g u pair.after))

    below : (u : ℕ) → (length g.trans ≤ u → ⊥) → u < length g.trans
    below u no_past = elim (cases_lt u (length g.trans)) [ inl low ↦ low | inr past ↦ absurd (no_past past) ]

    -- a transition with an arc is live
    live_taker : (u q : ℕ) → 0 < takes g u q → IsTrans g u
    live_taker u q some = live_where g u (takes g u q) some (λ dead. (weightless u q (below u (λ past. omega (arith, some, (narrow u q past).0))) dead).0)

    live_giver : (u q : ℕ) → 0 < gives g u q → IsTrans g u
    live_giver u q some = live_where g u (gives g u q) some (λ dead. (weightless u q (below u (λ past. omega (arith, some, (narrow u q past).1))) dead).1)

    -- no other transition gives to the place after t where another one takes from that before it
    not_backward : (u s : ℕ) → u ≢ t → s ≢ t → 0 < gives g u pair.after → 0 < takes g s pair.before
        → IsSecure g t → ⊥
    not_backward u s u_other s_other given taken (inl type1) =
        omega (arith, taken, type1 s pair.before (live_taker s pair.before taken) s_other pair.taken)
    not_backward u s u_other s_other given taken (inr type2) =
        omega (arith, given, type2.alone u pair.after (live_giver u pair.after given) u_other pair.given)

    -- the fall for the tokens of the new place is that for those of both
    both_fall : v.fall * tokens_at (contracted g t) p ≡ v.fall * tokens_at g pair.before + v.fall * tokens_at g pair.after
    both_fall = ap (λ k. v.fall * k) (pair_tokens g t narrow p pair) ∙ mul-add v.fall (tokens_at g pair.before) (tokens_at g pair.after)

    -- levels grow across the new place
    across_pair : GrowsAcross (contracted g t) v p
    across_pair u s given taken =
        let u_other = gives_other u given in
        let s_other = takes_other s taken in
        let gu = pair_given g t narrow p pair u u_other in
        let ts = pair_taken g t narrow p pair s s_other in
        elim (cases_lt 0 (gives g u pair.before)) [
          | inl ub ↦ elim (cases_lt 0 (takes g s pair.before)) [
            | inl sb ↦ omega (arith, w.grows pair.before u s ub sb, both_fall)
            | inr none ↦
                let sa : 0 < takes g s pair.after = omega (arith, taken, ts, none) in
                omega (arith, w.grows pair.before u t ub pair.taken, w.grows pair.after t s pair.given sa, both_fall)
          ]
          | inr empty ↦
              let ua : 0 < gives g u pair.after = omega (arith, given, gu, empty) in
              elim (cases_lt 0 (takes g s pair.after)) [
                | inl sa ↦ omega (arith, w.grows pair.after u s ua sa, both_fall)
                | inr none ↦ absurd (not_backward u s u_other s_other ua (omega (arith, taken, ts, none)) secure)
              ]
        ]

  -- and across a place that stays
  across_old : (p : ℕ) → p < length g.places → GrowsAcross (contracted g t) v p
  across_old p old u s given taken =
      let same = same_contracted g t p old (given_is_place (contracted g t) u p given) in
      subst (λ k. get_or v.numbers u 0 + v.rise ≤ get_or v.numbers s 0 + v.fall * k) (sym same.tokens)
      (w.grows p u s (omega (arith, given, same.given u)) (omega (arith, taken, same.taken s)))

  -- once a transition is securely contracted
  pub levelled-contracted : IsLevelled (contracted g t) v
  levelled-contracted = record {
    long = w.long ∙ sym (length-set g.trans t None);
    grows = λ p. elim (cases_lt p (length g.places)) [
      | inl old ↦ across_old p old
      | inr new ↦ λ u s given taken. across_pair p (new_place g t p new (given_is_place (contracted g t) u p given)) u s given taken
    ];
  }
