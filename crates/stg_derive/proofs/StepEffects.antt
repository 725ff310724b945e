-- What a plain step leaves of a draft: its names, and how much is live.
use Rattle.std.proofs.Common.{◌≡◌, ◌≢◌, ℕ, ◌+◌, ◌-◌, ◌<◌, ◌≤◌, Bool, true, false, map, length, Option, Some, None, is_some, ap, ◌∙◌, sym, refl, inl, inr, arith}
use Rattle.std.proofs.lemmas.Bool.{cases_eq, cases_lt, cases_Bool, false≢true}
use Rattle.std.proofs.lemmas.List.{get_or_past, get_or-append-add, length-append, length-map, length-set, get_or-map as get_or-map_in}
use Rattle.std.proofs.lemmas.List.FromFn.{length-map-range_with_len}
use Rattle.stg_net.specs.Graph.{Graph, Place, IsPlace, IsTrans, IsDummy, place_at, full_name_at, place_numbers}
use Rattle.stg_net.specs.Contraction.{pairs_round, pair_place, remaining_place, contracted, without_arcs_of, without_place, without_trans}
use Rattle.stg_laws.proofs.ContractedOrigins.{contracted-IsContraction as facts}
use Rattle.stg_laws.proofs.TransDeletion.{without_trans-IsWithout, place_at-without_trans}
use Rattle.stg_laws.proofs.PlaceDeletion.{place_at-other, place_at-gone}
use Rattle.stg_laws.specs.RedundantPlaces.{IsRedundantPlace, same_place, loop_place, shortcut}
use Rattle.stg_laws.specs.RedundantDummies.{IsRedundantDummy, same_dummy, loop_dummy}
use Rattle.stg_edit.specs.Counted.{live_places}
use Rattle.stg_edit.specs.Compacted.{live_trans}
use Rattle.stg_edit.specs.Replacing.{new_places}
use Rattle.stg_redundant.specs.declared.found.PlaceRule.{PlaceRule}
use Rattle.stg_redundant.specs.declared.found.PlaceRule.TheVariants as place_rule
use Rattle.stg_redundant.specs.declared.found.DummyRule.{DummyRule}
use Rattle.stg_redundant.specs.declared.found.DummyRule.TheVariants as dummy_rule
use Rattle.stg_redundant.specs.Rules.{IsPlaceRule, IsDummyRule}
use Rattle.stg_redundant.proofs.RuleTests.{redundant_live}
use Rattle.stg_derive.proofs.Counting.{count, count_le, count_less, count_from}

-- a place that has a rule is redundant
pub redundant_place_by : (g : Graph) (p : ℕ) (rule : PlaceRule) → IsPlaceRule g p rule → IsRedundantPlace g p
redundant_place_by g p (place_rule.Same q) r = same_place q r.0
redundant_place_by g p place_rule.Loop r = loop_place r.1
redundant_place_by g p place_rule.Shortcut r = shortcut r.2

-- a place that has a rule is live
pub live_rule : (g : Graph) (p : ℕ) (rule : PlaceRule) → IsPlaceRule g p rule → IsPlace g p
live_rule g p rule r = redundant_live g p (redundant_place_by g p rule r)

-- and so is a dummy that has one
pub redundant_dummy_by : (g : Graph) (t : ℕ) (rule : DummyRule) → IsDummyRule g t rule → IsRedundantDummy g t
redundant_dummy_by g t dummy_rule.Loop r = loop_dummy r
redundant_dummy_by g t (dummy_rule.Same u) r = same_dummy u r.1

-- what has a rule of dummies is a dummy
pub dummy_by : (g : Graph) (t : ℕ) (rule : DummyRule) → IsDummyRule g t rule → IsDummy g t
dummy_by g t dummy_rule.Loop r = r.dummy
dummy_by g t (dummy_rule.Same u) r = r.1.dummy

-- what is live has a number that was given
pub live_place_below : (g : Graph) (p : ℕ) → IsPlace g p → p < length g.places
live_place_below g p live = elim (cases_lt p (length g.places)) [
  | inl l ↦ l
  | inr past ↦ absurd (false≢true (ap is_some (sym (get_or_past g.places p None past)) ∙ live))
]

-- the same of transitions
pub live_trans_below : (g : Graph) (t : ℕ) → IsTrans g t → t < length g.trans
live_trans_below g t live = elim (cases_lt t (length g.trans)) [
  | inl l ↦ l
  | inr past ↦ absurd (false≢true (ap is_some (sym (get_or_past g.trans t None past)) ∙ live))
]

-- how many transitions, and how many places, are live
abbrev pub many_trans : Graph → ℕ
many_trans g = length (live_trans g)

-- how many places are live
abbrev pub many_places : Graph → ℕ
many_places g = length (live_places g)

-- h has the transitions of g but t
pub record LosesTrans (g h : Graph) (t : ℕ) : Type 0 where
  pub long : length h.trans ≡ length g.trans
  pub names : (u : ℕ) → u ≢ t → full_name_at h u ≡ full_name_at g u
  pub gone : (u : ℕ) → IsTrans h u → u ≢ t

-- the deletion of a dummy
pub loses_dummy : (g : Graph) (t : ℕ) → LosesTrans g (without_trans g t) t
loses_dummy g t = record { long = length-set g.trans t None; names = (without_trans-IsWithout g t).names.names; gone = (without_trans-IsWithout g t).gone }

-- the contraction of a dummy
pub loses_contracted : (g : Graph) (t : ℕ) → LosesTrans g (contracted g t) t
loses_contracted g t = record { long = length-set g.trans t None; names = (facts g t).names; gone = (facts g t).gone }

-- what is not live has no name
not_live : (h : Graph) (t : ℕ) → (IsTrans h t → ⊥) → is_some (full_name_at h t) ≡ false
not_live h t none = elim (cases_Bool (is_some (full_name_at h t))) [
  | inl l ↦ absurd (none l)
  | inr e ↦ e
]

-- what is live in h is live in g
still_live : (g h : Graph) (t : ℕ) → LosesTrans g h t → (u : ℕ) → IsTrans h u → IsTrans g u
still_live g h t l u live = rw (← l.names u (l.gone u live)) live

-- one transition fewer is live
pub fewer_trans : (g h : Graph) (t : ℕ) → LosesTrans g h t → IsTrans g t → many_trans h < many_trans g
fewer_trans g h t l live =
    let q : ℕ → Bool = λ u. is_some (full_name_at g u) in
    let r : ℕ → Bool = λ u. is_some (full_name_at h u) in
    let less = count_less q r (length g.trans) t (λ u below l2. still_live g h t l u l2) (live_trans_below g t live) live (not_live h t (λ l2. l.gone t l2 refl)) in
    omega (arith, less, ap (count r) l.long)

-- the deletion of a place leaves one place fewer
pub fewer_places : (g : Graph) (p : ℕ) → IsPlace g p → many_places (without_place g p) < many_places g
fewer_places g p live =
    let h = without_place g p in
    let q : ℕ → Bool = λ r. is_some (place_at g r) in
    let r : ℕ → Bool = λ k. is_some (place_at h k) in
    let less = count_less q r (length g.places) p (λ k below l. elim (cases_eq k p) [
      | inl e ↦ absurd (false≢true (sym (ap is_some (ap (place_at h) e ∙ place_at-gone g p)) ∙ l))
      | inr other ↦ sym (ap is_some (place_at-other g p k other)) ∙ l
    ]) (live_place_below g p live) live (ap is_some (place_at-gone g p)) in
    omega (arith, less, ap (count r) (length-set g.places p None))

-- a place without arcs at a transition is as live as before
as_live : (t : ℕ) (o : Option Place) → is_some (without_arcs_of t o) ≡ is_some o
as_live t None = refl
as_live t (Some x) = refl

-- the deletion of a transition leaves no more places
pub as_many_places : (g : Graph) (t : ℕ) → many_places (without_trans g t) ≤ many_places g
as_many_places g t =
    let h = without_trans g t in
    let q : ℕ → Bool = λ r. is_some (place_at g r) in
    let r : ℕ → Bool = λ k. is_some (place_at h k) in
    let le = count_le q r (length g.places) (λ k below l. sym (ap is_some (place_at-without_trans g t k) ∙ as_live t (place_at g k)) ∙ l) in
    omega (arith, le, ap (count r) (length-map g.places (without_arcs_of t)))

-- each new place is live
pub few_new : (g : Graph) (t : ℕ) → new_places g t ≤ many_places (contracted g t)
few_new g t =
    let h = contracted g t in
    let old = map (remaining_place g t) (place_numbers g) in
    let new = map (pair_place g t) (pairs_round g t) in
    let long : length h.places ≡ length g.places + new_places g t =
    length-append old new ∙ (λ i. length-map-range_with_len (remaining_place g t) 0 (length g.places) i + length-map (pairs_round g t) (pair_place g t) i) in
    let all = count_from (λ k. is_some (place_at h k)) (length g.places) (length h.places) (λ k l m. new_live g t k l (omega (arith, m, long))) in
    omega (arith, all, long)
  where
    new_live : (g : Graph) (t k : ℕ) → length g.places ≤ k → k < length g.places + new_places g t → is_some (place_at (contracted g t) k) ≡ true
    new_live g t k l m =
        let old = map (remaining_place g t) (place_numbers g) in
        let new = map (pair_place g t) (pairs_round g t) in
        let here : length old ≡ length g.places = length-map-range_with_len (remaining_place g t) 0 (length g.places) in
        let i = k - length g.places in
        let e : k ≡ length old + i = omega (arith, here, l) in
        ap is_some (ap (place_at (contracted g t)) e ∙ get_or-append-add old new i None ∙ get_or-map_in (pair_place g t) (pairs_round g t) i (0, 0) None (omega (arith, m, l)))
