-- The conflicts that an edit brings: a contraction brings them at new places alone, a deletion brings
-- none, and a signal that is shown brings its own.
use Rattle.std.proofs.Common.{◌≡◌, ◌<◌, ◌≤◌, ◌↔◌, ℕ, List, map, length, Option, Some, None, get_or, refl, ap, ◌∙◌, inl, inr, zero-add, arith, true, [], ◌∷◌, sym}
use Rattle.std.proofs.lemmas.Bool.{cases_Bool, cases_eq, cases_lt}
use Rattle.std.proofs.lemmas.List.{get_or_append_left, get_or-set_other, get_or-set_same, set_past}
use Rattle.std.proofs.lemmas.List.FromFn.{get_or-map-range_with_len, length-map-range_with_len}
use Rattle.std.proofs.lemmas.Slice.Eq.{bytes_eq-Decides}
use Rattle.stg_net.specs.declared.signal.Signal.{Signal}
use Rattle.stg_net.specs.Net.{signal_at}
use Rattle.stg_net.specs.Graph.{Graph, place_at, place_numbers, has_signal_of, is_among, taken_by, takes}
use Rattle.stg_net.specs.Contraction.{without_place, without_trans, contracted, is_touched, remaining_place, pair_place, pairs_round}
use Rattle.stg_laws.specs.Deterministic.{AreRivals}
use Rattle.stg_laws.specs.Conflict.{IsAutoConflict, HasNoAutoConflict}
use Rattle.stg_laws.proofs.Names.{live_from}
use Rattle.stg_laws.proofs.ContractedOrigins.{contracted-IsContraction}
use Rattle.stg_laws.proofs.ContractionLaws.{rivals_before}
use Rattle.stg_laws.proofs.TransDeletion.{without_trans-IsWithout}
use Rattle.stg_laws.proofs.DeletionLaws.{rivals_without}
use Rattle.stg_laws.specs.Cuts.{Label}
use Rattle.stg_edit.specs.Shown.{with_shown}
use Rattle.stg_edit.proofs.Showing.{known_before}
use Rattle.stg_conflict.specs.Hidden.{with_only, HasConflictFrom, IsNoted}

module _ (g : Graph) (t : ℕ) where
  -- what is left of an old place
  old_place : (p : ℕ) → p < length g.places → place_at (contracted g t) p ≡ remaining_place g t p
  old_place p below =
      get_or_append_left (map (remaining_place g t) (place_numbers g)) (map (pair_place g t) (pairs_round g t)) None p (omega (arith, below, length-map-range_with_len (remaining_place g t) 0 (length g.places)))
      ∙ get_or-map-range_with_len (remaining_place g t) 0 (length g.places) p p None below (zero-add p)

  -- nothing more is taken from it than before
  old_takes : (u p : ℕ) → p < length g.places → 0 < takes (contracted g t) u p → 0 < takes g u p
  old_takes u p below some = elim (cases_Bool (is_touched g t p)) [
    | inl gone ↦ let e : remaining_place g t p ≡ None = rw gone refl in absurd (omega (arith, some, ap (taken_by u) (old_place p below ∙ e)))
    | inr stays ↦ let e : remaining_place g t p ≡ place_at g p = rw stays refl in omega (arith, some, ap (taken_by u) (old_place p below ∙ e))
  ]

  -- rivals of the contracted graph are rivals before
  old_rivals : (u v : ℕ) → AreRivals (contracted g t) u v → AreRivals g u v
  old_rivals u v r =
      let k = contracted-IsContraction g t in
      rivals_before g (contracted g t) t k u v (k.gone u (live_from (contracted g t) u r.t_name r.t_has)) (k.gone v (live_from (contracted g t) v r.u_name r.u_has)) r

  -- a contraction of a graph without conflicts brings them at new places alone
  pub clashes_anew : HasNoAutoConflict g → (u v p : ℕ) → IsAutoConflict (contracted g t) u v p → length g.places ≤ p
  clashes_anew none u v p c = elim (cases_lt p (length g.places)) [
    | inl old ↦ absurd (none u v p (record { rivals = old_rivals u v c.rivals; t_takes = old_takes u p old c.t_takes; u_takes = old_takes v p old c.u_takes }))
    | inr new ↦ new
  ]

  -- so it has none exactly where new places have none
  pub none_anew : HasNoAutoConflict g → (HasConflictFrom (contracted g t) (length g.places) → ⊥) ↔ HasNoAutoConflict (contracted g t)
  none_anew none = (
    λ old u v p c. old (record { t = u; u = v; p = p; conflict = c; late = clashes_anew none u v p c }),
    λ new h. new h.t h.u h.p h.conflict,
  )

-- the deletion of a place brings no conflict
pub no_conflict-without_place : (g : Graph) (p : ℕ) → HasNoAutoConflict g → HasNoAutoConflict (without_place g p)
no_conflict-without_place g p none t u q c =
    none t u q (record {
      rivals = record { differ = c.rivals.differ; t_known = c.rivals.t_known; u_known = c.rivals.u_known; t_name = c.rivals.t_name; u_name = c.rivals.u_name; t_has = c.rivals.t_has; u_has = c.rivals.u_has; same = c.rivals.same };
      t_takes = before t c.t_takes;
      u_takes = before u c.u_takes;
    })
  where
    before : (t : ℕ) → 0 < takes (without_place g p) t q → 0 < takes g t q
    before t some = elim (cases_eq q p) [
      | inr other ↦ omega (arith, some, ap (taken_by t) (get_or-set_other g.places p q None None other))
      | inl e ↦ elim (cases_lt p (length g.places)) [
        | inl inside ↦ absurd (omega (arith, some, ap (takes (without_place g p) t) e, ap (taken_by t) (get_or-set_same g.places p None None inside)))
        | inr past ↦ omega (arith, some, ap (λ xs. taken_by t (get_or xs q None)) (set_past g.places p None past))
      ]
    ]

-- nor does that of a transition
pub no_conflict-without_trans : (g : Graph) (t : ℕ) → HasNoAutoConflict g → HasNoAutoConflict (without_trans g t)
no_conflict-without_trans g t none u v p c =
    let k = without_trans-IsWithout g t in
    let r = c.rivals in
    let u_other = k.gone u (live_from (without_trans g t) u r.t_name r.t_has) in
    let v_other = k.gone v (live_from (without_trans g t) v r.u_name r.u_has) in
    none u v p (record { rivals = rivals_without g (without_trans g t) t u v k r; t_takes = omega (arith, c.t_takes, k.taken u p u_other); u_takes = omega (arith, c.u_takes, k.taken v p v_other) })

-- where the signal has no conflict before a contraction, the step is noted of it exactly where it has one afterwards
module _ (signals : List Signal) (s : ℕ) (g : Graph) (t : ℕ) (none : HasNoAutoConflict (with_only signals s g)) (step : ℕ) where
  pub nothing_noted : IsNoted (with_only signals s (contracted g t)) (length g.places) step None None → HasNoAutoConflict (with_only signals s (contracted g t))
  nothing_noted n = (none_anew (with_only signals s g) t none).0 n

  pub step_noted : (i : ℕ) → IsNoted (with_only signals s (contracted g t)) (length g.places) step None (Some i)
      → (i ≡ step) × (HasNoAutoConflict (with_only signals s (contracted g t)) → ⊥)
  step_noted i n = (n.0, λ never. (none_anew (with_only signals s g) t none).1 never n.1)

  -- the same the other way round
  pub noted_none : (new : Option ℕ) → IsNoted (with_only signals s (contracted g t)) (length g.places) step None new
      → (new ≡ None) ↔ HasNoAutoConflict (with_only signals s (contracted g t))
  noted_none None n = (λ e. nothing_noted n, λ never. refl)
  noted_none (Some i) n = (λ e. absurd (cc), λ never. absurd ((step_noted i n).1 never))

-- a signal that is shown brings no conflict where it has none
pub no_conflict-shown : (signals : List Signal) (s : ℕ) (g : Graph) → HasNoAutoConflict g → HasNoAutoConflict (with_only signals s g) → HasNoAutoConflict (with_shown signals s g)
no_conflict-shown signals s g none only t u p c =
    let r = c.rivals in
    let shown = (with_shown signals s g).known in
    let one : r.t_name.signal ≡ r.u_name.signal = ap (λ (l : Label). l.signal) r.same in
    let rivals : (known : List (List ℕ)) → is_among known r.t_name.signal ≡ true → AreRivals (record g { known = known }) t u = λ known is. record {
      differ = r.differ;
      t_known = ap (has_signal_of known) r.t_has ∙ is;
      u_known = ap (has_signal_of known) r.u_has ∙ sym (ap (is_among known) one) ∙ is;
      t_name = r.t_name;
      u_name = r.u_name;
      t_has = r.t_has;
      u_has = r.u_has;
      same = r.same;
    } in
    elim (known_before signals s g r.t_name.signal (sym (ap (has_signal_of shown) r.t_has) ∙ r.t_known)) [
      | inl was ↦ none t u p (record { rivals = rivals g.known was; t_takes = c.t_takes; u_takes = c.u_takes })
      | inr is ↦ only t u p (record { rivals = rivals ((signal_at signals s).name ∷ []) (itself (signal_at signals s).name r.t_name.signal is); t_takes = c.t_takes; u_takes = c.u_takes })
    ]
  where
    itself : (x y : List ℕ) → x ≡ y → is_among (x ∷ []) y ≡ true
    itself x y e = rw ((bytes_eq-Decides x y).1 e) refl
