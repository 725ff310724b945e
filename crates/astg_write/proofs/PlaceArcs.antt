-- The arcs of a place stand together, and what is written of the place needs no other arcs.
use Rattle.std.proofs.Common.{◌≡◌, ◌≢◌, ◌+◌, ◌-◌, ◌<◌, ◌≤◌, ◌==◌, ◌&&◌, ◌||◌, ℕ, List, [], ◌∷◌, ◌++◌, Bool, true, false, cond, not, length, take, drop, get_or, refl, sym, ap, subst, ◌∙◌, arith, inl, inr, All, append_assoc, append-nil}
use Rattle.std.proofs.Math.Bool.{or-false}
use Rattle.std.proofs.lemmas.Bool.{and_right, cases_lt, ne_eqb}
use Rattle.std.proofs.lemmas.List.{take-append-drop, drop-drop, get_or-take, get_or-drop, length-take-le, length-drop}
use Rattle.std.proofs.lemmas.List.Elements.{All-head, All-tail}
use Rattle.std.proofs.lemmas.List.Folds.{list_any-append, list_any_none}
use Rattle.std.specs.List.{list_any}
use Rattle.std.specs.List.Sorted.{IsPartitionPoint}
use Rattle.std.specs.Prelude.{codes}
use Rattle.stg_net.specs.declared.arc.NetArc.{NetArc}
use Rattle.stg_net.specs.Net.{NetLists}
use Rattle.stg_net.specs.Words.{trans_word}
use Rattle.astg_write.specs.ComponentText.{goes_into, goes_out_of, weight_group, takers_of, is_only_given}

pub later : (a b c r s t : List ℕ) → t ≡ r ++ s → a ++ b ++ c ++ t ≡ (a ++ b ++ c ++ r) ++ s
later a b c r s t e = rw e (simp append_assoc)

-- the takers of two lists, one after the other
takers-append : (n : NetLists) (p : ℕ) (xs ys : List NetArc) → takers_of n p (xs ++ ys) ≡ takers_of n p xs ++ takers_of n p ys
takers-append n p [] ys = refl
takers-append n p (a ∷ xs) ys = by (goes_out_of p a) (takers-append n p xs ys)
  where
    by : (b : Bool) → takers_of n p (xs ++ ys) ≡ takers_of n p xs ++ takers_of n p ys
        → cond b (codes " " ++ trans_word n.signals n.trans a.trans ++ weight_group a.weight ++ takers_of n p (xs ++ ys)) (takers_of n p (xs ++ ys))
        ≡ cond b (codes " " ++ trans_word n.signals n.trans a.trans ++ weight_group a.weight ++ takers_of n p xs) (takers_of n p xs) ++ takers_of n p ys
    by true e = later (codes " ") (trans_word n.signals n.trans a.trans) (weight_group a.weight) (takers_of n p xs) (takers_of n p ys) (takers_of n p (xs ++ ys)) e
    by false e = e

-- arcs of other places have no takers
takers-none : (n : NetLists) (p : ℕ) (xs : List NetArc) → All (λ (a : NetArc). goes_out_of p a ≡ false) xs → takers_of n p xs ≡ []
takers-none n p [] h = refl
takers-none n p (a ∷ xs) h =
    ap (λ b. cond b (codes " " ++ trans_word n.signals n.trans a.trans ++ weight_group a.weight ++ takers_of n p xs) (takers_of n p xs)) (All-head (λ (x : NetArc). goes_out_of p x ≡ false) a xs h)
    ∙ takers-none n p xs (All-tail (λ (x : NetArc). goes_out_of p x ≡ false) a xs h)

module _ (p : ℕ) (xs ys zs : List NetArc) (before : All (λ (a : NetArc). a.place ≢ p) xs) (after : All (λ (a : NetArc). a.place ≢ p) zs) where
  not_out : (ws : List NetArc) → All (λ (a : NetArc). a.place ≢ p) ws → All (λ (a : NetArc). goes_out_of p a ≡ false) ws
  not_out ws h k d b = and_right (not (get_or ws k d).into) ((get_or ws k d).place == p) (ne_eqb (get_or ws k d).place p (h k d b))

  not_into : (ws : List NetArc) → All (λ (a : NetArc). a.place ≢ p) ws → All (λ (a : NetArc). goes_into p a ≡ false) ws
  not_into ws h k d b = and_right (get_or ws k d).into ((get_or ws k d).place == p) (ne_eqb (get_or ws k d).place p (h k d b))

  takers-middle : (n : NetLists) → takers_of n p (xs ++ (ys ++ zs)) ≡ takers_of n p ys
  takers-middle n =
      takers-append n p xs (ys ++ zs)
      ∙ ap (λ l. l ++ takers_of n p (ys ++ zs)) (takers-none n p xs (not_out xs before))
      ∙ takers-append n p ys zs
      ∙ ap (λ l. takers_of n p ys ++ l) (takers-none n p zs (not_out zs after))
      ∙ append-nil (takers_of n p ys)

  any-middle : (f : NetArc → Bool) → All (λ a. f a ≡ false) xs → All (λ a. f a ≡ false) zs → list_any f (xs ++ (ys ++ zs)) ≡ list_any f ys
  any-middle f h k =
      list_any-append f xs (ys ++ zs)
      ∙ ap (λ b. b || list_any f (ys ++ zs)) (list_any_none f xs h)
      ∙ list_any-append f ys zs
      ∙ ap (λ b. list_any f ys || b) (list_any_none f zs k)
      ∙ or-false (list_any f ys)

  only-middle : is_only_given (xs ++ (ys ++ zs)) p ≡ is_only_given ys p
  only-middle =
      let given = any-middle (goes_into p) (not_into xs before) (not_into zs after) in
      let taken = any-middle (goes_out_of p) (not_out xs before) (not_out zs after) in
      (λ j. given j && not (taken j))

-- the arcs of p by a key stand from f on and before t
module _ (key : NetArc → ℕ) (xs : List NetArc) (p f t : ℕ) (begins : f ≤ length xs) (ends : t ≤ length xs)
    (below : IsPartitionPoint (λ (a : NetArc). key a < p) (λ (a : NetArc). p ≤ key a) xs f)
    (above : IsPartitionPoint (λ (a : NetArc). key a < p + 1) (λ (a : NetArc). p + 1 ≤ key a) xs t) where
  pub in-order : f ≤ t
  in-order = elim (cases_lt t f) [
    | inl less ↦
        let none : NetArc = record { place = 0; trans = 0; into = false; weight = 0 } in
        absurd (omega (arith, below.0 t none (omega arith) less, above.1 t none (omega arith) (omega (arith, less, begins))))
    | inr more ↦ more
  ]

  abbrev slice : List NetArc
  slice = take (t - f) (drop f xs)

  pub cut : xs ≡ take f xs ++ (slice ++ drop t xs)
  cut =
      let whole : f + (t - f) ≡ t = omega (arith, in-order) in
      sym (take-append-drop f xs)
      ∙ ap (λ l. take f xs ++ l) (sym (take-append-drop (t - f) (drop f xs)) ∙ ap (λ l. slice ++ l) (drop-drop (t - f) f xs ∙ ap (λ k. drop k xs) whole))

  pub before : All (λ (a : NetArc). key a ≢ p) (take f xs)
  before k d b same =
      let inside : k < f = omega (arith, b, length-take-le f xs begins) in
      let low : key (get_or (take f xs) k d) < p = subst (λ (a : NetArc). key a < p) (sym (get_or-take f xs k d inside)) (below.0 k d (omega arith) inside) in
      omega (arith, low, same)

  pub after : All (λ (a : NetArc). key a ≢ p) (drop t xs)
  after k d b same =
      let inside : t + k < length xs = omega (arith, b, length-drop t xs) in
      let high : p + 1 ≤ key (get_or (drop t xs) k d) = subst (λ (a : NetArc). p + 1 ≤ key a) (sym (get_or-drop t xs k d)) (above.1 (t + k) d (omega arith) inside) in
      omega (arith, high, same)

  -- what is said of all arcs is said of these
  pub All-slice : (P : NetArc → Type 0) → All P xs → All P slice
  All-slice P h k d b =
      let long : length slice ≡ t - f = length-take-le (t - f) (drop f xs) (omega (arith, length-drop f xs, ends)) in
      let same = get_or-take (t - f) (drop f xs) k d (omega (arith, b, long)) ∙ get_or-drop f xs k d in
      subst P (sym same) (h (f + k) d (omega (arith, b, long, in-order, ends)))

module _ (xs : List NetArc) (p f t : ℕ) (begins : f ≤ length xs) (ends : t ≤ length xs)
    (below : IsPartitionPoint (λ (a : NetArc). a.place < p) (λ (a : NetArc). p ≤ a.place) xs f)
    (above : IsPartitionPoint (λ (a : NetArc). a.place < p + 1) (λ (a : NetArc). p + 1 ≤ a.place) xs t) where
  abbrev place : NetArc → ℕ
  place a = a.place

  abbrev ours : List NetArc
  ours = take (t - f) (drop f xs)

  pub takers-slice : (n : NetLists) → takers_of n p ours ≡ takers_of n p xs
  takers-slice n =
      sym (ap (takers_of n p) (cut place xs p f t begins ends below above)
      ∙ takers-middle p (take f xs) ours (drop t xs) (before place xs p f t begins ends below above) (after place xs p f t begins ends below above) n)

  pub only-slice : is_only_given ours p ≡ is_only_given xs p
  only-slice =
      sym (ap (λ l. is_only_given l p) (cut place xs p f t begins ends below above)
      ∙ only-middle p (take f xs) ours (drop t xs) (before place xs p f t begins ends below above) (after place xs p f t begins ends below above))
