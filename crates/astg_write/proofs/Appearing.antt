-- Places that appear in the order of their numbers.
use Rattle.std.proofs.Common.{◌≡◌, ◌≢◌, ◌<◌, ◌≤◌, ◌==◌, ◌&&◌, ◌||◌, ℕ, zero, suc, min, List, [], ◌∷◌, ◌++◌, Bool, true, false, cond, map, get_or, refl, sym, ap, ◌∙◌, arith, inl, inr, All, AllPairs, nat_lt}
use Rattle.std.proofs.lemmas.Bool.{or_from, or_right, cond_both, cases_Bool, cases_lt, cases_eq, false≢true, ne_eqb, eq-eqb, ltb-true, ltb-false}
use Rattle.std.proofs.lemmas.List.Elements.{All-nil, All-cons, All-head, All-tail}
use Rattle.std.specs.List.{list_any}
use Rattle.stg_net.specs.declared.arc.NetArc.{NetArc}
use Rattle.stg_net.specs.Ordered.{listed_below, least_giver}
use Rattle.astg_read.specs.Lists.{with_new, firsts}
use Rattle.astg_write.proofs.Listed.{any-listed, any-listed_none}

-- how many numbers below m, from 0 on, have a key below t, where keys don't fall
abbrev pub cut : (ℕ → ℕ) → ℕ → ℕ → ℕ
cut key t zero = zero
cut key t (suc m) = cond (nat_lt (key m) t) (suc m) (cut key t m)

module _ (key : ℕ → ℕ) where
  pub cut-most : (t m : ℕ) → cut key t m ≤ m
  cut-most t zero = omega arith
  cut-most t (suc m) = elim (cases_Bool (nat_lt (key m) t)) [
    | inl k ↦ omega (arith, ap (λ b. cond b (suc m) (cut key t m)) k)
    | inr k ↦ omega (arith, ap (λ b. cond b (suc m) (cut key t m)) k, cut-most t m)
  ]

  -- a number with a key below t lies below the cut
  pub cut-below : (t m p : ℕ) → p < m → key p < t → p < cut key t m
  cut-below t zero p b h = absurd (omega (arith, b))
  cut-below t (suc m) p b h = elim (cases_Bool (nat_lt (key m) t)) [
    | inl k ↦ omega (arith, ap (λ b. cond b (suc m) (cut key t m)) k, b)
    | inr k ↦ elim (cases_eq p m) [
      | inl e ↦ absurd (omega (arith, ltb-false (key m) t k, ap key e, h))
      | inr d ↦ omega (arith, ap (λ b. cond b (suc m) (cut key t m)) k, cut-below t m p (omega (arith, b, d)) h)
    ]
  ]

  -- and the other way round
  pub cut-above : (t m p : ℕ) → ((i j : ℕ) → i ≤ j → j < m → key i ≤ key j) → p < cut key t m → key p < t
  cut-above t zero p rising h = absurd (omega (arith, h))
  cut-above t (suc m) p rising h = elim (cases_Bool (nat_lt (key m) t)) [
    | inl k ↦ omega (arith, ltb-true (key m) t k, rising p m (omega (arith, h, ap (λ b. cond b (suc m) (cut key t m)) k)) (omega arith))
    | inr k ↦ cut-above t m p (λ i j l b. rising i j l (omega (arith, b))) (omega (arith, h, ap (λ b. cond b (suc m) (cut key t m)) k))
  ]

  pub cut-first : (m : ℕ) → cut key 0 m ≡ 0
  cut-first zero = refl
  cut-first (suc m) = elim (cases_Bool (nat_lt (key m) 0)) [
    | inl k ↦ absurd (omega (arith, ltb-true (key m) 0 k))
    | inr k ↦ ap (λ b. cond b (suc m) (cut key 0 m)) k ∙ cut-first m
  ]

  pub cut-rises : (t u m : ℕ) → t ≤ u → cut key t m ≤ cut key u m
  cut-rises t u zero h = omega arith
  cut-rises t u (suc m) h = elim (cases_Bool (nat_lt (key m) t)) [
    | inl k ↦ (let d = ltb-true (key m) t k in let e = cut-below u (suc m) m (omega arith) (omega (arith, d, h)) in omega (arith, ap (λ b. cond b (suc m) (cut key t m)) k, e))
    | inr k ↦ elim (cases_Bool (nat_lt (key m) u)) [
      | inl l ↦ omega (arith, ap (λ b. cond b (suc m) (cut key t m)) k, ap (λ b. cond b (suc m) (cut key u m)) l, cut-most t m)
      | inr l ↦ omega (arith, ap (λ b. cond b (suc m) (cut key t m)) k, ap (λ b. cond b (suc m) (cut key u m)) l, cut-rises t u m h)
    ]
  ]

module _ {X : Type 0} (same : X → X → Bool) (g : ℕ → X) (n : ℕ) (itself : (i : ℕ) → i < n → same (g i) (g i) ≡ true) (apart : (i j : ℕ) → i < n → j < n → i ≢ j → same (g i) (g j) ≡ false) where
  abbrev seen : ℕ → List X
  seen c = listed_below (λ i. g i ∷ []) c

  pub with_new-old : (c q : ℕ) → c ≤ n → q < c → with_new same (seen c) (g q) ≡ seen c
  with_new-old c q within b = ap (λ t. cond t (seen c) (seen c ++ g q ∷ [])) (any-listed (same (g q)) g c q b (itself q (omega (arith, b, within))))

  pub with_new-new : (c : ℕ) → c < n → with_new same (seen c) (g c) ≡ seen (suc c)
  with_new-new c within = ap (λ t. cond t (seen c) (seen c ++ g c ∷ []))
      (any-listed_none (same (g c)) g c (λ k b. apart c k within (omega (arith, b, within)) (λ e. absurd (omega (arith, e, b)))))

  tail-rises : (q : ℕ) (qs : List ℕ) → AllPairs (λ a b. a < b) (q ∷ qs) → AllPairs (λ a b. a < b) qs
  tail-rises q qs h i j d l b = h (suc i) (suc j) d (omega (arith, l)) (omega (arith, b))

  head-least : (q : ℕ) (qs : List ℕ) → AllPairs (λ a b. a < b) (q ∷ qs) → All (λ r. q < r) qs
  head-least q qs h k d b = h 0 (suc k) d (omega arith) (omega (arith, b))

  none-at : (c q : ℕ) (qs : List ℕ) → c ≤ q → All (λ r. q < r) qs → list_any (λ r. r == c) qs ≡ false
  none-at c q [] l h = refl
  none-at c q (r ∷ qs) l h = or_from (r == c) (list_any (λ r. r == c) qs)
      (ne_eqb r c (λ e. absurd (omega (arith, e, l, All-head (λ r. q < r) r qs h)))) (none-at c q qs l (All-tail (λ r. q < r) r qs h))

  -- ascending numbers below e, with each from c on, make those below c those below e
  pub firsts-rising : (c e : ℕ) (qs : List ℕ) → c ≤ e → e ≤ n → AllPairs (λ a b. a < b) qs → All (λ q. q < e) qs
      → ((p : ℕ) → c ≤ p → p < e → list_any (λ q. q == p) qs ≡ true) → firsts same (seen c) (map g qs) ≡ seen e
  firsts-rising c e [] l within rise low there = elim (cases_eq c e) [
    | inl k ↦ ap seen k
    | inr k ↦ absurd (false≢true (there c (omega arith) (omega (arith, l, k))))
  ]
  firsts-rising c e (q ∷ qs) l within rise low there = elim (cases_lt q c) [
    | inl k ↦ ap (λ s. firsts same s (map g qs)) (with_new-old c q (omega (arith, l, within)) k)
        ∙ firsts-rising c e qs l within (tail-rises q qs rise) (All-tail (λ r. r < e) q qs low)
        (λ p a b. sym (ap (λ t. t || list_any (λ r. r == p) qs) (ne_eqb q p (λ s. absurd (omega (arith, s, k, a))))) ∙ there p a b)
    | inr k ↦ (let s = next k in
        ap (λ r. firsts same (with_new same (seen c) (g r)) (map g qs)) s
        ∙ ap (λ z. firsts same z (map g qs)) (with_new-new c (omega (arith, s, below, within)))
        ∙ firsts-rising (suc c) e qs (omega (arith, s, below)) within (tail-rises q qs rise) (All-tail (λ r. r < e) q qs low)
        (λ p a b. sym (ap (λ t. t || list_any (λ r. r == p) qs) (ne_eqb q p (λ x. absurd (omega (arith, x, s, a))))) ∙ there p (omega (arith, a)) b))
  ]
    where
      below : q < e
      below = All-head (λ r. r < e) q qs low

      next : c ≤ q → q ≡ c
      next k = elim (cases_eq q c) [
        | inl s ↦ s
        | inr d ↦ absurd (false≢true (sym (or_from (q == c) (list_any (λ r. r == c) qs) (ne_eqb q c d) (none-at c q qs k (head-least q qs rise))) ∙ there c (omega arith) (omega (arith, below, k))))
      ]

-- where the least giver is t, t gives to the place
pub giver-there : (none p t : ℕ) (arcs : List NetArc) → t < none → least_giver none p arcs ≡ t → list_any (λ (a : NetArc). (a.into && (a.trans == t)) && (a.place == p)) arcs ≡ true
giver-there none p t [] b e = absurd (omega (arith, b, e))
giver-there none p t (a ∷ arcs) b e = by_case a.into (a.place == p) (giver-there none p t arcs b) e
  where
    by_case : (i q : Bool) → (least_giver none p arcs ≡ t → list_any (λ (x : NetArc). (x.into && (x.trans == t)) && (x.place == p)) arcs ≡ true)
        → cond (i && q) (min a.trans (least_giver none p arcs)) (least_giver none p arcs) ≡ t
        → ((i && (a.trans == t)) && q || list_any (λ (x : NetArc). (x.into && (x.trans == t)) && (x.place == p)) arcs) ≡ true
    by_case true true more e = elim (cases_eq a.trans t) [
      | inl s ↦ ap (λ z. z && true || list_any (λ (x : NetArc). (x.into && (x.trans == t)) && (x.place == p)) arcs) (eq-eqb a.trans t s)
      | inr d ↦ or_right ((a.trans == t) && true) (list_any (λ (x : NetArc). (x.into && (x.trans == t)) && (x.place == p)) arcs) (more (omega (arith, e, d)))
    ]
    by_case true false more e = or_right ((a.trans == t) && false) (list_any (λ (x : NetArc). (x.into && (x.trans == t)) && (x.place == p)) arcs) (more e)
    by_case false q more e = more e

-- no giver is less than the least
pub giver-least : (none p : ℕ) (arcs : List NetArc) → All (λ (a : NetArc). a.into ≡ true → a.place ≡ p → least_giver none p arcs ≤ a.trans) arcs
giver-least none p [] = All-nil (λ (a : NetArc). a.into ≡ true → a.place ≡ p → none ≤ a.trans)
giver-least none p (a ∷ arcs) =
    let most = least_giver none p (a ∷ arcs) in
    All-cons (λ (x : NetArc). x.into ≡ true → x.place ≡ p → most ≤ x.trans) a arcs
    (λ i q. let e : most ≡ min a.trans (least_giver none p arcs) = ap (λ z. cond (z && (a.place == p)) (min a.trans (least_giver none p arcs)) (least_giver none p arcs)) i ∙ ap (λ z. cond z (min a.trans (least_giver none p arcs)) (least_giver none p arcs)) (eq-eqb a.place p q) in omega (arith, e))
    (λ k d b i q. let rest = giver-least none p arcs k d b i q in
    cond_both (a.into && (a.place == p)) (min a.trans (least_giver none p arcs)) (least_giver none p arcs) (λ x. x ≤ (get_or arcs k d).trans) (λ _. omega (arith, rest)) (λ _. rest))

-- a place to which nothing gives
pub giver-none : (none p : ℕ) (arcs : List NetArc) → All (λ (a : NetArc). a.trans < none) arcs → none ≤ least_giver none p arcs → list_any (λ (a : NetArc). a.into && (a.place == p)) arcs ≡ false
giver-none none p [] h l = refl
giver-none none p (a ∷ arcs) h l = by_case (a.into && (a.place == p)) (giver-none none p arcs (All-tail (λ (x : NetArc). x.trans < none) a arcs h)) l
  where
    by_case : (b : Bool) → (none ≤ least_giver none p arcs → list_any (λ (x : NetArc). x.into && (x.place == p)) arcs ≡ false) → none ≤ cond b (min a.trans (least_giver none p arcs)) (least_giver none p arcs) → (b || list_any (λ (x : NetArc). x.into && (x.place == p)) arcs) ≡ false
    by_case true more k = absurd (omega (arith, k, All-head (λ (x : NetArc). x.trans < none) a arcs h))
    by_case false more k = more k
