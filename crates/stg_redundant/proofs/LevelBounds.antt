-- Bounds on the levels of the transitions at a place, and the fall that is enough for it.
use Rattle.std.proofs.Common.{◌≡◌, ◌<◌, ◌≤◌, ◌+◌, ◌*◌, ◌-◌, ℕ, zero, suc, List, ◌∷◌, length, get_or, All, sym, ap, subst, inl, inr, arith}
use Rattle.std.proofs.Math.Nat.{mul-le-mul_right, le-mul_of_pos_right}
use Rattle.std.proofs.lemmas.Bool.{cases_lt, cases_eq, lt-ltb, le-ltb}
use Rattle.std.proofs.lemmas.List.Elements.{All-cons, All-head, All-tail}
use Rattle.stg_net.specs.Graph.{Graph, tokens_at, takes, gives}
use Rattle.stg_arena.specs.WalkItems.{weighted_from}
use Rattle.stg_edit.specs.Drafts.{IsWeightlessPastLast}
use Rattle.stg_edit.specs.Walks.{taking_trans, giving_trans}
use Rattle.stg_redundant.specs.Levelled.{Levelling, GrowsAcross}
use Rattle.stg_redundant.specs.inner.DeadLinks.{AreBelow, AreAbove}

-- what holds of each element of a walk holds of each number with a weight
pub all_weighted : (P : ℕ × ℕ → Type 0) (w : ℕ → ℕ) (m a k : ℕ) → a ≤ k → k < a + m → 0 < w k
    → All P (weighted_from w a m) → P (k, w k)
all_weighted P w zero a k low high some all = absurd (omega (arith, low, high))
all_weighted P w (suc m) a k low high some all = elim (cases_eq a k) [
  | inl e ↦
      let has : 0 < w a = omega (arith, some, ap w e) in
      subst (λ j. P (j, w j)) e (All-head P (a, w a) (weighted_from w (a + 1) m) (rw (lt-ltb 0 (w a) has) at all))
  | inr n ↦
      let above : a + 1 ≤ k = elim (cases_lt a k) [ inl h ↦ omega (arith, h) | inr h ↦ absurd (n (omega (arith, h, low))) ] in
      elim (cases_lt 0 (w a)) [
        | inl has ↦ all_weighted P w m (a + 1) k above (omega (arith, high)) some (All-tail P (a, w a) (weighted_from w (a + 1) m) (rw (lt-ltb 0 (w a) has) at all))
        | inr none ↦ all_weighted P w m (a + 1) k above (omega (arith, high)) some (rw (le-ltb 0 (w a) none) at all)
      ]
]

-- no level of the transitions, and `rise` more, is past the number so far, but those that are left
abbrev pub AreBelowButLeft : List ℕ → ℕ → ℕ → List (ℕ × ℕ) → List (ℕ × ℕ) → Type 0
AreBelowButLeft numbers rise most left trans =
    (r : ℕ) → most ≤ r → AreBelow numbers rise r left → AreBelow numbers rise r trans

-- so it is with one more
pub below_more : (numbers : List ℕ) (rise most more : ℕ) (x : ℕ × ℕ) (whole left trans : List (ℕ × ℕ))
    → whole ≡ x ∷ left → most ≤ more → get_or numbers x.0 0 + rise ≤ more
    → AreBelowButLeft numbers rise most whole trans → AreBelowButLeft numbers rise more left trans
below_more numbers rise most more x whole left trans e less here before r enough rest =
    before r (omega (arith, less, enough)) (subst (AreBelow numbers rise r) (sym e)
    (All-cons (λ (x : ℕ × ℕ). get_or numbers x.0 0 + rise ≤ r) x left (omega (arith, here, enough)) rest))

-- the number so far is past no level of the transitions, but those that are left
abbrev pub AreAboveButLeft : List ℕ → ℕ → List (ℕ × ℕ) → List (ℕ × ℕ) → Type 0
AreAboveButLeft numbers least left trans =
    (r : ℕ) → r ≤ least → AreAbove numbers r left → AreAbove numbers r trans

-- so it is with one more
pub above_more : (numbers : List ℕ) (least less : ℕ) (x : ℕ × ℕ) (whole left trans : List (ℕ × ℕ))
    → whole ≡ x ∷ left → less ≤ least → less ≤ get_or numbers x.0 0
    → AreAboveButLeft numbers least whole trans → AreAboveButLeft numbers less left trans
above_more numbers least less x whole left trans e more here before r enough rest =
    before r (omega (arith, more, enough)) (subst (AreAbove numbers r) (sym e)
    (All-cons (λ (x : ℕ × ℕ). r ≤ get_or numbers x.0 0) x left (omega (arith, here, enough)) rest))

-- what the levels of the givers, and `rise` more, are past those of the takers, falls for a token
pub falls_across : (g : Graph) (v : Levelling) (p most least : ℕ) → IsWeightlessPastLast g
    → AreBelow v.numbers v.rise most (giving_trans g p) → AreAbove v.numbers least (taking_trans g p)
    → most ≤ least + v.fall * tokens_at g p → GrowsAcross g v p
falls_across g v p most least narrow below above enough u t given taken =
    let u_below = all_weighted (λ (x : ℕ × ℕ). get_or v.numbers x.0 0 + v.rise ≤ most) (λ u. gives g u p) (length g.trans) 0 u (omega arith) (omega (arith, inside (λ u. gives g u p) u given (λ past. (narrow u p past).1))) given below in
    let t_above = all_weighted (λ (x : ℕ × ℕ). least ≤ get_or v.numbers x.0 0) (λ t. takes g t p) (length g.trans) 0 t (omega arith) (omega (arith, inside (λ t. takes g t p) t taken (λ past. (narrow t p past).0))) taken above in
    omega (arith, u_below, t_above, enough)
  where
    inside : (w : ℕ → ℕ) (u : ℕ) → 0 < w u → (length g.trans ≤ u → w u ≡ 0) → u < length g.trans
    inside w u some past = elim (cases_lt u (length g.trans)) [ inl low ↦ low | inr high ↦ absurd (omega (arith, some, past high)) ]

-- a fall that is at least the lack is enough where the place has a token
pub fall_enough : (most least fall tokens lack : ℕ) → lack ≡ most - least → lack ≤ fall → 0 < tokens
    → most ≤ least + fall * tokens
fall_enough most least fall tokens lack e more some =
    omega (arith, e, more, le-mul_of_pos_right {m = tokens} fall some)

-- levels grow across the first places
abbrev pub GrowBelow : Graph → Levelling → ℕ → Type 0
GrowBelow g v p = (q : ℕ) → q < p → GrowsAcross g v q

-- and across one more, where the fall isn't less
pub grow_more : (g : Graph) (v w : Levelling) (p : ℕ) → w.numbers ≡ v.numbers → w.rise ≡ v.rise → v.fall ≤ w.fall
    → GrowsAcross g w p → GrowBelow g v p → GrowBelow g w (p + 1)
grow_more g v w p numbers rise more here before q low u t given taken = elim (cases_lt q p) [
  | inl past ↦ omega (
    arith,
    before q past u t given taken,
    ap (λ xs. get_or xs u 0) numbers,
    ap (λ xs. get_or xs t 0) numbers,
    rise,
    mul-le-mul_right {m = v.fall} {n = w.fall} (tokens_at g q) more,
  )
  | inr last ↦ let e : p ≡ q = omega (arith, low, last) in subst (GrowsAcross g w) e here u t given taken
]
