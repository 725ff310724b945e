-- The words of transitions differ, so a word has one place.
use Rattle.std.proofs.Common.{◌≡◌, ℕ, zero, suc, ◌<◌, ◌==◌, Bool, true, false, cond, nat_lt, List, [], ◌∷◌, ◌++◌, length, get_or, length-append, position, Some, None, refl, sym, ap, ◌∙◌, arith, inl, inr}
use Rattle.std.proofs.lemmas.Bool.{cases_eq, cases_order, cases_Bool, lt-ltb, le-ltb, true≢false, and_parts, false_from_ne_true, eqb-true}
use Rattle.std.proofs.lemmas.Fmt.{decimal_injective}
use Rattle.std.proofs.lemmas.List.{get_or_append_left, get_or_at}
use Rattle.std.proofs.lemmas.List.Quantifiers.{position-Some}
use Rattle.std.proofs.lemmas.List.Sums.{position_or_len_is}
use Rattle.std.proofs.lemmas.Slice.Eq.{bytes_eq-Decides}
use Rattle.std.specs.List.{list_all, position_or_len}
use Rattle.std.specs.Prelude.{decimal}
use Rattle.std.specs.Str.{bytes_eq}
use Rattle.stg_net.specs.Names.{is_in_name, IsWellNamed}
use Rattle.stg_net.specs.Net.{NetLists, IsNet, signal_at, trans_at}
use Rattle.stg_net.specs.Ordered.{listed_below}
use Rattle.stg_net.proofs.Listed.{length-listed, get-listed, position-listed, position-unlisted}
use Rattle.stg_net.specs.Words.{sign_of, index_text}
use Rattle.stg_net.specs.declared.trans.Edge.{Edge}
use Rattle.stg_net.specs.declared.trans.Edge.TheVariants.{Rise, Fall, Toggle}
use Rattle.stg_steps.specs.LogText.{word_at}
use Rattle.stg_steps.specs.inner.Reading.{place_in, trans_words}
use Rattle.stg_steps.proofs.Gaps.{no_trans, no_signal, word-spelled, signal-bytes}

abbrev head_of : List ℕ → ℕ
head_of [] = 0
head_of (x ∷ xs) = x

abbrev tail_of : List ℕ → List ℕ
tail_of [] = []
tail_of (x ∷ xs) = xs

-- two lists that go on at bytes outside the test are the same up to there
front_same : (P : ℕ → Bool) (a b : List ℕ) (x y : ℕ) (xs ys : List ℕ) → list_all P a ≡ true → list_all P b ≡ true → P x ≡ false → P y ≡ false → a ++ x ∷ xs ≡ b ++ y ∷ ys
    → (a ≡ b) × (x ≡ y) × (xs ≡ ys)
front_same P [] [] x y xs ys ha hb hx hy e = (refl, ap head_of e, ap tail_of e)
front_same P [] (b ∷ bs) x y xs ys ha hb hx hy e = absurd (true≢false (sym (and_parts (P b) (list_all P bs) hb).0 ∙ ap P (sym (ap head_of e)) ∙ hx))
front_same P (a ∷ cs) [] x y xs ys ha hb hx hy e = absurd (true≢false (sym (and_parts (P a) (list_all P cs) ha).0 ∙ ap P (ap head_of e) ∙ hy))
front_same P (a ∷ cs) (b ∷ bs) x y xs ys ha hb hx hy e =
    let rest = front_same P cs bs x y xs ys (and_parts (P a) (list_all P cs) ha).1 (and_parts (P b) (list_all P bs) hb).1 hx hy (ap tail_of e) in
    ((λ j. ap head_of e j ∷ rest.0 j), rest.1, rest.2)

sign_outside : (e : Edge) → is_in_name (sign_of e) ≡ false
sign_outside Rise = refl
sign_outside Fall = refl
sign_outside Toggle = refl

sign_same : (e f : Edge) → sign_of e ≡ sign_of f → e ≡ f
sign_same Rise Rise h = refl
sign_same Rise Fall h = absurd (omega (arith, h))
sign_same Rise Toggle h = absurd (omega (arith, h))
sign_same Fall Rise h = absurd (omega (arith, h))
sign_same Fall Fall h = refl
sign_same Fall Toggle h = absurd (omega (arith, h))
sign_same Toggle Rise h = absurd (omega (arith, h))
sign_same Toggle Fall h = absurd (omega (arith, h))
sign_same Toggle Toggle h = refl

index-zero : (k : ℕ) → (k == 0) ≡ true → index_text k ≡ []
index-zero k z = ap (λ b. cond b [] (47 ∷ decimal k)) z

index-some : (k : ℕ) → (k == 0) ≡ false → index_text k ≡ 47 ∷ decimal k
index-some k s = ap (λ b. cond b [] (47 ∷ decimal k)) s

index_same : (j k : ℕ) → j < 1000000000 → k < 1000000000 → index_text j ≡ index_text k → j ≡ k
index_same j k hj hk e = elim (cases_Bool (j == 0)) [
  | inl y ↦ elim (cases_Bool (k == 0)) [
    | inl z ↦ eqb-true j 0 y ∙ sym (eqb-true k 0 z)
    | inr s ↦ let l : 0 ≡ length (47 ∷ decimal k) = ap {A = List ℕ} length (sym (index-zero j y) ∙ e ∙ index-some k s) in absurd (omega (arith, l))
  ]
  | inr r ↦ elim (cases_Bool (k == 0)) [
    | inl z ↦ let l : length (47 ∷ decimal j) ≡ 0 = ap {A = List ℕ} length (sym (index-some j r) ∙ e ∙ index-zero k z) in absurd (omega (arith, l))
    | inr s ↦ decimal_injective j k (omega (arith, hj)) (omega (arith, hk)) (ap tail_of (sym (index-some j r) ∙ e ∙ index-some k s))
  ]
]

module _ (n : NetLists) (net : IsNet n) (named : IsWellNamed n) where
  name_same : (r s : ℕ) → r < length n.signals → s < length n.signals → (signal_at n.signals r).name ≡ (signal_at n.signals s).name → r ≡ s
  name_same r s hr hs e = elim (cases_order r s) [
    | inl same ↦ same
    | inr other ↦ elim other [
      | inl less ↦ absurd (net.signal_names r s no_signal less hs e)
      | inr more ↦ absurd (net.signal_names s r no_signal more hr (sym e))
    ]
  ]

  trans_same : (t u : ℕ) → t < length n.trans → u < length n.trans → word_at n t ≡ word_at n u → trans_at n.trans t ≡ trans_at n.trans u
  trans_same t u ht hu e =
      let a = trans_at n.trans t in
      let b = trans_at n.trans u in
      let sa = net.trans_signals t no_trans ht in
      let sb = net.trans_signals u no_trans hu in
      let parts = front_same is_in_name (signal_at n.signals a.signal).name (signal_at n.signals b.signal).name (sign_of a.edge) (sign_of b.edge) (index_text a.index) (index_text b.index)
      (signal-bytes n net named a.signal sa) (signal-bytes n net named b.signal sb) (sign_outside a.edge) (sign_outside b.edge)
      (sym (word-spelled n net named t ht) ∙ e ∙ word-spelled n net named u hu) in
      let signal = name_same a.signal b.signal sa sb parts.0 in
      let edge = sign_same a.edge b.edge parts.1 in
      let index = index_same a.index b.index (named.indices t no_trans ht) (named.indices u no_trans hu) parts.2 in
      (λ j. record { signal = signal j; edge = edge j; index = index j })

  -- the words of two transitions differ
  pub word_same : (t u : ℕ) → t < length n.trans → u < length n.trans → word_at n t ≡ word_at n u → t ≡ u
  word_same t u ht hu e = elim (cases_order t u) [
    | inl same ↦ same
    | inr other ↦ elim other [
      | inl less ↦ absurd (net.trans_names t u no_trans less hu (trans_same t u ht hu e))
      | inr more ↦ absurd (net.trans_names u t no_trans more ht (sym (trans_same t u ht hu e)))
    ]
  ]

  other_word : (t u : ℕ) → t < length n.trans → u < t → bytes_eq (word_at n t) (word_at n u) ≡ false
  other_word t u ht hu = false_from_ne_true (bytes_eq (word_at n t) (word_at n u)) (λ e. let same = word_same t u ht (omega (arith, hu, ht)) ((bytes_eq-Decides (word_at n t) (word_at n u)).0 e) in absurd (omega (arith, same, hu)))

  -- a transition's word stands at its number
  pub place_in-word : (t : ℕ) → t < length n.trans → place_in (trans_words n) (word_at n t) ≡ Some t
  place_in-word t h = position-listed (word_at n) (λ x. bytes_eq (word_at n t) x) (length n.trans) t h ((bytes_eq-Decides (word_at n t) (word_at n t)).1 refl) (λ j b. other_word t j h b)

  -- and is none of those before it
  pub place_in-new : (t : ℕ) → t < length n.trans → place_in (listed_below (λ u. word_at n u ∷ []) t) (word_at n t) ≡ None
  place_in-new t h = position-unlisted (word_at n) (λ x. bytes_eq (word_at n t) x) t (λ j b. other_word t j h b)

-- a word that has a place is the word of the transition there
pub place_in-told : (n : NetLists) (w : List ℕ) (t : ℕ) → place_in (trans_words n) w ≡ Some t → (t < length n.trans) × (w ≡ word_at n t)
place_in-told n w t e =
    let at = position-Some (λ x. bytes_eq w x) (trans_words n) t [] e in
    let long = length-listed (word_at n) (length n.trans) in
    let there : t < length n.trans = omega (arith, at.0, long) in
    (there, (bytes_eq-Decides w (get_or (trans_words n) t [])).0 at.1 ∙ get-listed (word_at n) (length n.trans) t [] there)
