-- The arcs of text arcs whose nodes are there are those of a net, and those of text arcs that differ have different ends.
use Rattle.std.proofs.Common.{◌≡◌, ℕ, zero, suc, ◌<◌, ◌≤◌, List, [], ◌∷◌, ◌++◌, Bool, true, false, nat_le, length, get_or, position, unwrap_or, Option, Some, None, All, AllPairs, sym, ap, subst, ◌∙◌, append_assoc, append-nil, arith}
use Rattle.std.specs.List.{list_any, list_all}
use Rattle.std.specs.Option.{option_map_or}
use Rattle.std.proofs.lemmas.Bool.{and_parts, or_parts, leb-true, true≢false}
use Rattle.std.proofs.lemmas.List.Concat.{flat_map-append}
use Rattle.std.proofs.lemmas.List.Elements.{All-nil, All-cons, All-append}
use Rattle.std.proofs.lemmas.List.Kept.{AllPairs-cons}
use Rattle.stg_net.specs.declared.arc.NetArc.{NetArc}
use Rattle.stg_net.specs.declared.trans.TransName.{TransName}
use Rattle.stg_net.specs.Net.{IsArcOf}
use Rattle.stg_net.proofs.Moved.{AllPairs-append}
use Rattle.astg_read.specs.Graphs.{TextArc, PlaceAt, Named, Between, same_text_arc, same_place, node_arcs, arcs_of, arcs}
use Rattle.astg_read.specs.Lists.{has_repeat}
use Rattle.astg_read.specs.Nodes.{Node, Trans, Place, same_trans}
use Rattle.astg_read.specs.inner.WellFormed.{IsNodeIn, IsBetweenIn, IsTextArcIn, AreTextArcsIn, is_weighed}
use Rattle.astg_read.specs.Targets.{is_weight}
use Rattle.astg_read.proofs.ArcLemmas.{number-below, arc-fresh, arcs-from, AllArcs, IsArcFrom}
use Rattle.astg_read.proofs.ArcOrder.{AreApart}
use Rattle.astg_read.proofs.WellFormedGraph.{text_arcs-append}

-- the arcs of numbers that are there, with a weight from 1 to most
pub record IsFit (most : ℕ) (places trans : ℕ) (a : NetArc) : Type 0 where
  pub arc : IsArcOf places trans a
  pub bounded : a.weight ≤ most

module _ (ts : List TransName) (ps : List PlaceAt) (most : ℕ) (least : 1 ≤ most) where
  abbrev Fits : NetArc → Type 0
  Fits a = IsFit most (length ps) (length ts) a

  abbrev trans_there : TransName → Type 0
  trans_there t = list_any (same_trans t) ts ≡ true

  fits_at : (p : PlaceAt) (t : TransName) (into : Bool) (weight : ℕ)
      → list_any (same_place p) ps ≡ true → trans_there t → (1 ≤ weight) × (weight ≤ most)
      → Fits (record { place = unwrap_or (position (same_place p) ps) 0; trans = unwrap_or (position (same_trans t) ts) 0; into = into; weight = weight })
  fits_at p t into weight p_there t_there fit = record {
    arc = record { place_there = number-below same_place ps p p_there; trans_there = number-below same_trans ts t t_there; positive = fit.0 };
    bounded = fit.1;
  }

  -- the arcs between two nodes fit
  between_fit : (w : ℕ) → (1 ≤ w) × (w ≤ most) → (m n : Node) → IsNodeIn ts ps m → IsNodeIn ts ps n
      → IsBetweenIn ps m n → All Fits (node_arcs ts ps w m n)
  between_fit w fit (Trans t) (Place p) h k l =
      All-cons Fits _ [] (fits_at (Named p) t true w k h fit) (All-nil Fits)
  between_fit w fit (Place p) (Trans t) h k l =
      All-cons Fits _ [] (fits_at (Named p) t false w h k fit) (All-nil Fits)
  between_fit w fit (Trans t) (Trans u) h k l =
      All-cons Fits _ (_ ∷ []) (fits_at (Between t u) t true 1 l h (omega arith, least))
      (All-cons Fits _ [] (fits_at (Between t u) u false 1 l k (omega arith, least)) (All-nil Fits))
  between_fit w fit (Place p) (Place q) h k l = All-nil Fits

  weight_fits : (o : Option ℕ) → option_map_or (λ w. is_weight most (Some w)) o true ≡ true → (1 ≤ unwrap_or o 1) × (unwrap_or o 1 ≤ most)
  weight_fits None h = (omega arith, least)
  weight_fits (Some w) h =
      let q = and_parts (nat_le 1 w) (nat_le w most) h in (leb-true 1 w q.0, leb-true w most q.1)

  -- so do those of text arcs
  pub arcs_fit : (qs : List TextArc) → AreTextArcsIn ts ps qs → list_all (is_weighed most) qs ≡ true
      → All Fits (arcs ts ps qs)
  arcs_fit [] there weighed = All-nil Fits
  arcs_fit (q ∷ qs) there weighed =
      let w = and_parts (is_weighed most q) (list_all (is_weighed most) qs) weighed in
      All-append Fits (arcs_of ts ps q) (arcs ts ps qs)
      (between_fit (unwrap_or q.weight 1) (weight_fits q.weight w.0) q.source q.target there.0.source_there there.0.target_there there.0.between_there)
      (arcs_fit qs there.1 w.1)

module _ (ts : List TransName) (ps : List PlaceAt) where
  apart_turned : (a b : NetArc) → AreApart a b → AreApart b a
  apart_turned a b apart e =
      apart (record { same_place = sym e.same_place; same_trans = sym e.same_trans; same_way = sym e.same_way })

  single : (a : NetArc) → AllPairs AreApart (a ∷ [])
  single a = λ i j d lt below. absurd (omega (arith, lt, below))

  -- the arcs between two nodes differ in their ends
  between_apart : (w : ℕ) (m n : Node) → AllPairs AreApart (node_arcs ts ps w m n)
  between_apart w (Trans t) (Place p) = single _
  between_apart w (Place p) (Trans t) = single _
  between_apart w (Trans t) (Trans u) =
      AllPairs-cons AreApart _ (_ ∷ []) (All-cons (AreApart _) _ [] (λ e. true≢false (sym e.same_way)) (All-nil (AreApart _))) (single _)
  between_apart w (Place p) (Place q) = λ i j d lt below. absurd (omega (arith, below))

  -- each of the arcs comes from its text arc
  from_pair : (q : TextArc) (bs : List NetArc) → AllArcs (IsArcFrom ts ps q.source q.target) bs
      → (k : ℕ) (d : NetArc) → k < length bs → IsArcFrom ts ps q.source q.target (get_or bs k d)
  from_pair q [] all k d below = absurd (omega (arith, below))
  from_pair q (b ∷ bs) all zero d below = all.0
  from_pair q (b ∷ bs) all (suc k) d below = from_pair q bs all.1 k d (omega (arith, below))

  -- one more text arc, which differs from those before
  with_pair : (q : TextArc) (done : List TextArc) → IsTextArcIn ts ps q → AreTextArcsIn ts ps done
      → list_any (same_text_arc q) done ≡ false → AllPairs AreApart (arcs ts ps done)
      → AllPairs AreApart (arcs ts ps (done ++ q ∷ []))
  with_pair q done there done_there fresh apart =
      let whole : arcs ts ps (done ++ q ∷ []) ≡ arcs ts ps done ++ arcs_of ts ps q = flat_map-append (arcs_of ts ps) done (q ∷ []) ∙ ap (λ xs. arcs ts ps done ++ xs) (append-nil (arcs_of ts ps q)) in
      let from = from_pair q (arcs_of ts ps q) (arcs-from ts ps (unwrap_or q.weight 1) q.source q.target there.source_there there.target_there there.between_there) in
      subst (AllPairs AreApart) (sym whole)
      (AllPairs-append AreApart (arcs ts ps done) (arcs_of ts ps q) apart (between_apart (unwrap_or q.weight 1) q.source q.target)
      (λ i j d i_below j_below. apart_turned (get_or (arcs_of ts ps q) j d) (get_or (arcs ts ps done) i d) (arc-fresh ts ps q (get_or (arcs_of ts ps q) j d) done (from j d j_below) done_there fresh i d i_below)))

  arcs_apart_after : (done qs : List TextArc) → AreTextArcsIn ts ps done → AreTextArcsIn ts ps qs
      → has_repeat same_text_arc done qs ≡ false → AllPairs AreApart (arcs ts ps done)
      → AllPairs AreApart (arcs ts ps (done ++ qs))
  arcs_apart_after done [] done_there there differ apart =
      subst (λ xs. AllPairs AreApart (arcs ts ps xs)) (sym (append-nil done)) apart
  arcs_apart_after done (q ∷ qs) done_there there differ apart =
      let f = or_parts (list_any (same_text_arc q) done) (has_repeat same_text_arc (done ++ q ∷ []) qs) differ in
      subst (λ xs. AllPairs AreApart (arcs ts ps xs)) (append_assoc done (q ∷ []) qs)
      (arcs_apart_after (done ++ q ∷ []) qs (text_arcs-append ts ps done (q ∷ []) done_there (there.0, tt)) there.1 f.1 (with_pair q done there.0 done_there f.0 apart))

  -- arcs of text arcs that differ
  pub arcs_apart : (qs : List TextArc) → AreTextArcsIn ts ps qs → has_repeat same_text_arc [] qs ≡ false
      → AllPairs AreApart (arcs ts ps qs)
  arcs_apart qs there differ =
      arcs_apart_after [] qs tt there differ (λ i j d lt below. absurd (omega (arith, below)))

-- what doesn't stand again differs from all before it
pub differ_pairs : {X : Type 0} (same : X → X → Bool) (xs : List X) → has_repeat same [] xs ≡ false → AllPairs (λ x y. same y x ≡ false) xs
differ_pairs {X} same xs once = after [] xs once (λ i j d lt below. absurd (omega (arith, below)))
  where
    none : (x : X) (seen : List X) → list_any (same x) seen ≡ false → All (λ y. same x y ≡ false) seen
    none x [] h = All-nil (λ y. same x y ≡ false)
    none x (y ∷ seen) h =
        let q = or_parts (same x y) (list_any (same x) seen) h in All-cons (λ y. same x y ≡ false) y seen q.0 (none x seen q.1)

    after : (seen xs : List X) → has_repeat same seen xs ≡ false → AllPairs (λ x y. same y x ≡ false) seen → AllPairs (λ x y. same y x ≡ false) (seen ++ xs)
    after seen [] h all = subst (AllPairs (λ x y. same y x ≡ false)) (sym (append-nil seen)) all
    after seen (x ∷ xs) h all =
        let q = or_parts (list_any (same x) seen) (has_repeat same (seen ++ x ∷ []) xs) h in
        subst (AllPairs (λ x y. same y x ≡ false)) (append_assoc seen (x ∷ []) xs)
        (after (seen ++ x ∷ []) xs q.1 (AllPairs-append (λ x y. same y x ≡ false) seen (x ∷ []) all (λ i j d lt below. absurd (omega (arith, lt, below)))
        (λ i j d i_below j_below. at_last x seen (none x seen q.0) i j d i_below j_below)))
      where
        at_last : (x : X) (seen : List X) → All (λ y. same x y ≡ false) seen → (i j : ℕ) (d : X) → i < length seen → j < 1 → same (get_or (x ∷ []) j d) (get_or seen i d) ≡ false
        at_last x seen all i zero d i_below j_below = all i d i_below
        at_last x seen all i (suc j) d i_below j_below = absurd (omega (arith, j_below))
