-- Rivals: the test over names says what the definition says.
use Rattle.std.proofs.Common.{◌≡◌, ◌<◌, ◌&&◌, ◌==◌, ◌⊎◌, ℕ, true, not, Option, Some, None, is_some, min, max, eq-eqb, refl, sym, ap, ◌∙◌, inl, inr, arith}
use Rattle.std.proofs.lemmas.Bool.{and_parts, cases_Bool, cases_order, ne_eqb, not-true, false≢true}
use Rattle.std.proofs.lemmas.Slice.Eq.{bytes_eq-Decides}
use Rattle.stg_net.specs.Graph.{Graph, FullName, IsTrans, full_name_at, has_signal_of}
use Rattle.stg_net.proofs.Edges.{is_edge-true, is_edge-itself}
use Rattle.stg_laws.specs.Cuts.{Label, label_of}
use Rattle.stg_laws.specs.Deterministic.{AreRivals}
use Rattle.stg_laws.proofs.Names.{named}
use Rattle.stg_contract.specs.inner.Searches.{is_same_label, are_rivals, ordered_rivals}

-- what is known is live
pub known_live : (g : Graph) (u : ℕ) → has_signal_of g.known (full_name_at g u) ≡ true → IsTrans g u
known_live g u = go (full_name_at g u)
  where
    go : (o : Option FullName) → has_signal_of g.known o ≡ true → is_some o ≡ true
    go None e = absurd (false≢true e)
    go (Some x) e = refl

label_found : (x y : FullName) → is_same_label (Some x) (Some y) ≡ true → label_of x ≡ label_of y
label_found x y e =
    let parts = and_parts _ _ e in
    let signals : x.signal ≡ y.signal = (bytes_eq-Decides x.signal y.signal).0 parts.0 in
    let edges = is_edge-true x.edge y.edge parts.1 in
    λ i. record { signal = signals i; edge = edges i }

label_there : (x y : FullName) → label_of x ≡ label_of y → is_same_label (Some x) (Some y) ≡ true
label_there x y e =
    let signals : x.signal ≡ y.signal = ap (λ (l : Label). l.signal) e in
    let edges : x.edge ≡ y.edge = ap (λ (l : Label). l.edge) e in
    rw ((bytes_eq-Decides x.signal y.signal).1 signals) (rw edges (is_edge-itself y.edge))

-- the test finds rivals
pub rivals_found : (g : Graph) (u v : ℕ) → are_rivals g u v ≡ true → AreRivals g u v
rivals_found g u v e =
    let a = and_parts _ _ e in
    let b = and_parts _ _ a.0 in
    let c = and_parts _ _ b.0 in
    let x = named g u (known_live g u c.1) in
    let y = named g v (known_live g v b.1) in
    record {
      differ = λ same. false≢true (sym (not-true (u == v) c.0) ∙ eq-eqb u v same);
      t_known = c.1;
      u_known = b.1;
      t_name = x.name;
      u_name = y.name;
      t_has = x.has;
      u_has = y.has;
      same = label_found x.name y.name (sym (λ i. is_same_label (x.has i) (y.has i)) ∙ a.1);
    }

-- and finds all
pub rivals_there : (g : Graph) (u v : ℕ) → AreRivals g u v → are_rivals g u v ≡ true
rivals_there g u v r = (λ i. not (ne_eqb u v r.differ i) && r.t_known i && r.u_known i && is_same_label (r.t_has i) (r.u_has i)) ∙ label_there r.t_name r.u_name r.same

-- rivals in the other order
pub rivals_turned : (g : Graph) (u v : ℕ) → AreRivals g u v → AreRivals g v u
rivals_turned g u v r = record {
  differ = λ e. r.differ (sym e);
  t_known = r.u_known;
  u_known = r.t_known;
  t_name = r.u_name;
  u_name = r.t_name;
  t_has = r.u_has;
  u_has = r.t_has;
  same = sym r.same;
}

-- a clash that is found
pub record IsClashOf (g : Graph) (u v : ℕ) (y : ℕ × ℕ) : Type 0 where
  pub rivals : AreRivals g u v
  pub is : ((y.0 ≡ u) × (y.1 ≡ v)) ⊎ ((y.0 ≡ v) × (y.1 ≡ u))
  pub ascends : y.0 < y.1

-- two numbers that are found are two rivals
pub clash_found : (g : Graph) (u v : ℕ) (y : ℕ × ℕ) → ordered_rivals g u v ≡ Some y → IsClashOf g u v y
clash_found g u v y e = elim (cases_Bool (are_rivals g u v)) [
  | inl h ↦ found (rivals_found g u v h) (rw h at e)
  | inr h ↦ absurd (none (rw h at e))
]
  where
    none : None ≡ Some y → ⊥
    none e = absurd (cc)

    found : AreRivals g u v → Some (min u v, max u v) ≡ Some y → IsClashOf g u v y
    found r e =
        let same : (min u v, max u v) ≡ y = cc in
        let first : min u v ≡ y.0 = ap (λ (x : ℕ × ℕ). x.0) same in
        let second : max u v ≡ y.1 = ap (λ (x : ℕ × ℕ). x.1) same in
        elim (cases_order u v) [
          | inl s ↦ absurd (r.differ s)
          | inr (inl l) ↦ record { rivals = r; is = inl (omega (arith, first, l), omega (arith, second, l)); ascends = omega (arith, first, second, l) }
          | inr (inr l) ↦ record { rivals = r; is = inr (omega (arith, first, l), omega (arith, second, l)); ascends = omega (arith, first, second, l) }
        ]

-- and two rivals are found in both orders
pub clash_there : (g : Graph) (u v : ℕ) → AreRivals g u v → u < v
    → (ordered_rivals g u v ≡ Some (u, v)) × (ordered_rivals g v u ≡ Some (u, v))
clash_there g u v r l =
    let low : min u v ≡ u = omega (arith, l) in
    let high : max u v ≡ v = omega (arith, l) in
    let low' : min v u ≡ u = omega (arith, l) in
    let high' : max v u ≡ v = omega (arith, l) in
    (rw (rivals_there g u v r) (λ i. Some (low i, high i)), rw (rivals_there g v u (rivals_turned g u v r)) (λ i. Some (low' i, high' i)))
