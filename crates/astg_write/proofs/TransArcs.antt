-- The arcs of a transition, in a list of all arcs by their transitions.
use Rattle.std.proofs.Common.{◌≡◌, ◌≢◌, ◌+◌, ◌-◌, ◌<◌, ◌≤◌, ◌==◌, ◌&&◌, ℕ, List, [], ◌∷◌, ◌++◌, Bool, true, false, cond, not, filter, length, take, drop, get_or, refl, sym, ap, ◌∙◌, All, append-nil}
use Rattle.std.proofs.lemmas.Bool.{and_right, ne_eqb}
use Rattle.std.proofs.lemmas.List.Elements.{All-head, All-tail}
use Rattle.std.specs.List.Sorted.{IsPartitionPoint, IsStableByKey}
use Rattle.std.specs.Ordering.{is_lt, nat_cmp}
use Rattle.std.specs.Prelude.{codes}
use Rattle.stg_net.proofs.Keyed.{tie_test}
use Rattle.stg_net.specs.declared.arc.NetArc.{NetArc}
use Rattle.astg_write.specs.PlaceNames.{numbered_name}
use Rattle.astg_write.specs.ComponentText.{comes_from, weight_group, given_text}
use Rattle.astg_write.proofs.PlaceArcs.{later, cut, before, after}
use Rattle.astg_write.proofs.WrittenArcs.{filter-agree}

-- what two lists of arcs give, one after the other
given-append : (prefix : List ℕ) (t : ℕ) (xs ys : List NetArc) → given_text prefix t (xs ++ ys) ≡ given_text prefix t xs ++ given_text prefix t ys
given-append prefix t [] ys = refl
given-append prefix t (a ∷ xs) ys = by (comes_from t a) (given-append prefix t xs ys)
  where
    by : (b : Bool) → given_text prefix t (xs ++ ys) ≡ given_text prefix t xs ++ given_text prefix t ys
        → cond b (codes " " ++ numbered_name prefix a.place ++ weight_group a.weight ++ given_text prefix t (xs ++ ys)) (given_text prefix t (xs ++ ys))
        ≡ cond b (codes " " ++ numbered_name prefix a.place ++ weight_group a.weight ++ given_text prefix t xs) (given_text prefix t xs) ++ given_text prefix t ys
    by true e = later (codes " ") (numbered_name prefix a.place) (weight_group a.weight) (given_text prefix t xs) (given_text prefix t ys) (given_text prefix t (xs ++ ys)) e
    by false e = e

-- arcs of other transitions give nothing
given-none : (prefix : List ℕ) (t : ℕ) (xs : List NetArc) → All (λ (a : NetArc). a.trans ≢ t) xs → given_text prefix t xs ≡ []
given-none prefix t [] h = refl
given-none prefix t (a ∷ xs) h =
    let other : comes_from t a ≡ false = and_right a.into (a.trans == t) (ne_eqb a.trans t (All-head (λ (x : NetArc). x.trans ≢ t) a xs h)) in
    ap (λ b. cond b (codes " " ++ numbered_name prefix a.place ++ weight_group a.weight ++ given_text prefix t xs) (given_text prefix t xs)) other
    ∙ given-none prefix t xs (All-tail (λ (x : NetArc). x.trans ≢ t) a xs h)

-- only the arcs of the transition count
given-filter : (prefix : List ℕ) (t : ℕ) (xs : List NetArc) → given_text prefix t xs ≡ given_text prefix t (filter (λ (a : NetArc). a.trans == t) xs)
given-filter prefix t [] = refl
given-filter prefix t (a ∷ xs) = by (a.trans == t) refl (given-filter prefix t xs)
  where
    rest : List NetArc
    rest = filter (λ (x : NetArc). x.trans == t) xs

    word : List ℕ → List ℕ
    word more = codes " " ++ numbered_name prefix a.place ++ weight_group a.weight ++ more

    by : (b : Bool) → (a.trans == t) ≡ b → given_text prefix t xs ≡ given_text prefix t rest
        → cond (a.into && b) (word (given_text prefix t xs)) (given_text prefix t xs) ≡ given_text prefix t (cond b (a ∷ rest) rest)
    by true e more = (λ j. cond (a.into && sym e j) (word (more j)) (more j))
    by false e more = ap (λ b. cond b (word (given_text prefix t xs)) (given_text prefix t xs)) (and_right a.into false refl) ∙ more

-- a stable sort by transitions leaves what each transition gives
pub given-sorted : (xs ys : List NetArc) → IsStableByKey (λ (a : NetArc). a.trans) nat_cmp xs ys → (prefix : List ℕ) (t : ℕ) → given_text prefix t ys ≡ given_text prefix t xs
given-sorted xs ys stable prefix t =
    let x : NetArc = record { place = 0; trans = t; into = false; weight = 0 } in
    let tie : NetArc → Bool = λ a. not (is_lt (nat_cmp t a.trans)) && not (is_lt (nat_cmp a.trans t)) in
    let own : NetArc → Bool = λ a. a.trans == t in
    let agree : (zs : List NetArc) → filter tie zs ≡ filter own zs = λ zs. filter-agree tie own zs (λ k d b. tie_test t (get_or zs k d).trans) in
    given-filter prefix t ys
    ∙ ap (given_text prefix t) (sym (agree ys) ∙ stable x ∙ agree xs)
    ∙ sym (given-filter prefix t xs)

module _ (xs : List NetArc) (u f t : ℕ) (begins : f ≤ length xs) (ends : t ≤ length xs)
    (below : IsPartitionPoint (λ (a : NetArc). a.trans < u) (λ (a : NetArc). u ≤ a.trans) xs f)
    (above : IsPartitionPoint (λ (a : NetArc). a.trans < u + 1) (λ (a : NetArc). u + 1 ≤ a.trans) xs t) where
  abbrev trans : NetArc → ℕ
  trans a = a.trans

  abbrev ours : List NetArc
  ours = take (t - f) (drop f xs)

  -- the arcs from f on and before t are all that u has
  pub given-slice : (prefix : List ℕ) → given_text prefix u ours ≡ given_text prefix u xs
  given-slice prefix =
      let low = before trans xs u f t begins ends below above in
      let high = after trans xs u f t begins ends below above in
      sym (ap (given_text prefix u) (cut trans xs u f t begins ends below above)
      ∙ given-append prefix u (take f xs) (ours ++ drop t xs)
      ∙ ap (λ l. l ++ given_text prefix u (ours ++ drop t xs)) (given-none prefix u (take f xs) low)
      ∙ given-append prefix u ours (drop t xs)
      ∙ ap (λ l. given_text prefix u ours ++ l) (given-none prefix u (drop t xs) high)
      ∙ append-nil (given_text prefix u ours))
