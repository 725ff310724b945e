-- Deletions keep a calm graph calm: nothing rises, and no rivals come.
use Rattle.std.proofs.Common.{◌≡◌, ◌<◌, ◌≤◌, ◌+◌, ℕ, zero, suc, min, Bool, true, false, cond, List, length, filter, get_or, set, Option, Some, None, is_some, refl, sym, ap, ◌∙◌, inl, inr, arith}
use Rattle.std.specs.List.{range_with_len, sum_by}
use Rattle.std.proofs.lemmas.Bool.{cases_lt, cases_eq, false≢true}
use Rattle.std.proofs.lemmas.List.{get_or-set_other, get_or-set_same, set_past, get_or_past, length-set, length-map}
use Rattle.stg_net.specs.Graph.{Graph, Place, IsPlace, place_at, tokens_in, taken_by, given_by, tokens_at, takes, gives}
use Rattle.stg_net.specs.Contraction.{without_place, without_arcs_of, without_trans}
use Rattle.stg_laws.specs.Deterministic.{AreRivals}
use Rattle.stg_laws.proofs.TransDeletion.{without_trans-IsWithout, place_at-without_trans}
use Rattle.stg_laws.proofs.DeletionLaws.{rivals_without}
use Rattle.stg_edit.specs.Counted.{count_arcs_at, count_arcs}
use Rattle.stg_arena.specs.WalkItems.{weighted}
use Rattle.stg_edit.proofs.Counted.{sum_more}
use Rattle.stg_arena.proofs.Appends.{weighted_more}
use Rattle.stg_contract.specs.Calm.{IsCalm}

-- one more number
pub length-weighted_suc : (n : ℕ) (w : ℕ → ℕ) → length (weighted (suc n) w) ≡ length (weighted n w) + min 1 (w n)
length-weighted_suc n w = ap (λ k. length (weighted k w)) (let e : suc n ≡ n + 1 = omega arith in e) ∙ weighted_more n w

-- smaller weights are no more
pub length-weighted_less : (n : ℕ) (w v : ℕ → ℕ) → ((k : ℕ) → k < n → v k ≤ w k)
    → length (weighted n v) ≤ length (weighted n w)
length-weighted_less zero w v h = omega arith
length-weighted_less (suc n) w v h = omega (arith, length-weighted_suc n w, length-weighted_suc n v, length-weighted_less n w v (λ k l. h k (omega arith)), h n (omega arith))

-- one more number in a sum
pub sum_filter_suc : (f : ℕ → ℕ) (q : ℕ → Bool) (n : ℕ)
    → sum_by f (filter q (range_with_len 0 (suc n))) ≡ sum_by f (filter q (range_with_len 0 n)) + cond (q n) (f n) 0
sum_filter_suc f q n = ap (λ k. sum_by f (filter q (range_with_len 0 k))) (let e : suc n ≡ n + 1 = omega arith in e) ∙ sum_more f q n

-- what passes a stricter test counts no more
pub cond_less : (a b : Bool) (x y : ℕ) → (b ≡ true → a ≡ true) → y ≤ x → cond b y 0 ≤ cond a x 0
cond_less true true x y h le = le
cond_less true false x y h le = omega arith
cond_less false true x y h le = absurd (false≢true (h refl))
cond_less false false x y h le = omega arith

sum_less : (f h : ℕ → ℕ) (q r : ℕ → Bool) (n : ℕ) → ((k : ℕ) → r k ≡ true → q k ≡ true)
    → ((k : ℕ) → h k ≤ f k)
    → sum_by h (filter r (range_with_len 0 n)) ≤ sum_by f (filter q (range_with_len 0 n))
sum_less f h q r zero a b = omega arith
sum_less f h q r (suc n) a b = omega (arith, sum_filter_suc f q n, sum_filter_suc h r n, sum_less f h q r n a b, cond_less (q n) (r n) (f n) (h n) (a n) (b n))

-- h has no more of anything than g
pub record IsLess (g h : Graph) : Type 0 where
  pub places_long : length h.places ≡ length g.places
  pub trans_long : length h.trans ≡ length g.trans
  pub live : (p : ℕ) → IsPlace h p → IsPlace g p
  pub taken : (t p : ℕ) → takes h t p ≤ takes g t p
  pub given : (t p : ℕ) → gives h t p ≤ gives g t p
  pub tokens : (p : ℕ) → tokens_at h p ≤ tokens_at g p
  pub rivals : (t u : ℕ) → AreRivals h t u → AreRivals g t u

less_arcs : (g h : Graph) → IsLess g h → count_arcs h ≤ count_arcs g
less_arcs g h l =
    let n = length h.trans in
    let at : (p : ℕ) → count_arcs_at h p ≤ count_arcs_at g p = λ p. omega (
      arith,
      length-weighted_less n (λ t. takes g t p) (λ t. takes h t p) (λ t b. l.taken t p),
      length-weighted_less n (λ t. gives g t p) (λ t. gives h t p) (λ t b. l.given t p),
      ap (λ n. length (weighted n (λ t. takes g t p))) l.trans_long,
      ap (λ n. length (weighted n (λ t. gives g t p))) l.trans_long,
    ) in
    let q : ℕ → Bool = λ p. is_some (place_at g p) in
    let r : ℕ → Bool = λ p. is_some (place_at h p) in
    omega (arith, sum_less (count_arcs_at g) (count_arcs_at h) q r (length h.places) l.live at, ap (λ n. sum_by (count_arcs_at g) (filter q (range_with_len 0 n))) l.places_long)

-- so it is calm where g is
pub less_calm : (g h : Graph) → IsLess g h → IsCalm g → IsCalm h
less_calm g h l calm = record {
  no_conflict = λ t u p c. calm.no_conflict t u p (record { rivals = l.rivals t u c.rivals; t_takes = omega (arith, c.t_takes, l.taken t p); u_takes = omega (arith, c.u_takes, l.taken u p) });
  within = record {
    taken = λ t p. omega (arith, l.taken t p, calm.within.taken t p);
    given = λ t p. omega (arith, l.given t p, calm.within.given t p);
    tokens = λ p. omega (arith, l.tokens p, calm.within.tokens p);
    arcs = omega (arith, less_arcs g h l, calm.within.arcs);
  };
}

-- what is read of a place that has gone, or of another one
without_less : (f : Option Place → ℕ) → f None ≡ 0 → (g : Graph) (p r : ℕ)
    → f (place_at (without_place g p) r) ≤ f (place_at g r)
without_less f none g p r = elim (cases_eq r p) [
  | inr other ↦ omega (arith, ap f (get_or-set_other g.places p r None None other))
  | inl e ↦ elim (cases_lt p (length g.places)) [
    | inl l ↦ omega (arith, none, ap (λ k. f (place_at (without_place g p) k)) e, ap f (get_or-set_same g.places p None None l))
    | inr past ↦ omega (arith, ap (λ xs. f (get_or xs r None)) (set_past g.places p None past))
  ]
]

still_live : (g : Graph) (p r : ℕ) → IsPlace (without_place g p) r → IsPlace g r
still_live g p r live = elim (cases_eq r p) [
  | inr other ↦ sym (ap is_some (get_or-set_other g.places p r None None other)) ∙ live
  | inl e ↦ elim (cases_lt p (length g.places)) [
    | inl l ↦ absurd (false≢true (sym (ap (λ k. is_some (place_at (without_place g p) k)) e ∙ ap is_some (get_or-set_same g.places p None None l)) ∙ live))
    | inr past ↦ sym (ap (λ xs. is_some (get_or xs r None)) (set_past g.places p None past)) ∙ live
  ]
]

place_less : (g : Graph) (p : ℕ) → IsLess g (without_place g p)
place_less g p = record {
  places_long = length-set g.places p None;
  trans_long = refl;
  live = still_live g p;
  taken = λ t r. without_less (taken_by t) refl g p r;
  given = λ t r. without_less (given_by t) refl g p r;
  tokens = λ r. without_less tokens_in refl g p r;
  rivals = λ t u r. record { differ = r.differ; t_known = r.t_known; u_known = r.u_known; t_name = r.t_name; u_name = r.u_name; t_has = r.t_has; u_has = r.u_has; same = r.same };
}

-- the deletion of a place keeps a calm graph calm
pub calm-without_place : (g : Graph) (p : ℕ) → IsCalm g → IsCalm (without_place g p)
calm-without_place g p = less_calm g (without_place g p) (place_less g p)

unset : (xs : List ℕ) (t : ℕ) → get_or (set xs t 0) t 0 ≡ 0
unset xs t = elim (cases_lt t (length xs)) [
  | inl l ↦ get_or-set_same xs t 0 0 l
  | inr past ↦ rw (set_past xs t 0 past) (get_or_past xs t 0 past)
]

pub taken_none : (t : ℕ) (o : Option Place) → taken_by t (without_arcs_of t o) ≡ 0
taken_none t None = refl
taken_none t (Some x) = unset x.taken t

pub given_none : (t : ℕ) (o : Option Place) → given_by t (without_arcs_of t o) ≡ 0
given_none t None = refl
given_none t (Some x) = unset x.given t

still_place : (t : ℕ) (o : Option Place) → is_some (without_arcs_of t o) ≡ is_some o
still_place t None = refl
still_place t (Some x) = refl

trans_less : (g : Graph) (t : ℕ) → IsLess g (without_trans g t)
trans_less g t =
    let without = without_trans-IsWithout g t in record {
      places_long = length-map g.places (without_arcs_of t);
      trans_long = length-set g.trans t None;
      live = λ p l. sym (ap is_some (place_at-without_trans g t p) ∙ still_place t (place_at g p)) ∙ l;
      taken = λ u p. elim (cases_eq u t) [
        | inl e ↦ omega (arith, ap (λ v. takes (without_trans g t) v p) e, ap (taken_by t) (place_at-without_trans g t p), taken_none t (place_at g p))
        | inr other ↦ omega (arith, without.taken u p other)
      ];
      given = λ u p. elim (cases_eq u t) [
        | inl e ↦ omega (arith, ap (λ v. gives (without_trans g t) v p) e, ap (given_by t) (place_at-without_trans g t p), given_none t (place_at g p))
        | inr other ↦ omega (arith, without.given u p other)
      ];
      tokens = λ p. omega (arith, without.tokens p);
      rivals = λ u v r. rivals_without g (without_trans g t) t u v without r;
    }

-- and so does that of a transition
pub calm-without_trans : (g : Graph) (t : ℕ) → IsCalm g → IsCalm (without_trans g t)
calm-without_trans g t = less_calm g (without_trans g t) (trans_less g t)
