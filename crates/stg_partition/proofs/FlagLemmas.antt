-- Flags by leaders: each leader and signal have one of their own.
use Rattle.std.proofs.Common.{◌≡◌, ◌≢◌, ℕ, ◌+◌, ◌*◌, ◌<◌, ◌≤◌, ◌&&◌, ◌||◌, ◌==◌, Bool, true, false, List, length, get_or, refl, sym, ap, ◌∙◌, arith, eq-eqb, inl, inr, get_or-set_same, get_or-set_other}
use Rattle.std.proofs.Math.Bool.{or-true}
use Rattle.std.proofs.Math.ListN.{set}
use Rattle.std.proofs.Math.Nat.{mul-le-mul_right}
use Rattle.std.proofs.lemmas.Bool.{cases_eq, cases_order, ne_eqb}

leader_below : (size l k s r : ℕ) → s < size → l < k → l * size + s ≢ k * size + r
leader_below size l k s r low up e =
    let more : (l + 1) * size ≤ k * size = mul-le-mul_right size (omega arith) in
    absurd (omega (arith, e, more, low))

same_leader : (size l k s r : ℕ) → s < size → r < size → l * size + s ≡ k * size + r → l ≡ k
same_leader size l k s r low also e = elim (cases_order l k) [
  | inl same ↦ same
  | inr o ↦ elim o [ inl up ↦ absurd (leader_below size l k s r low up e) | inr down ↦ absurd (leader_below size k l r s also down (sym e)) ]
]

same_signal : (size l k s r : ℕ) → l ≡ k → l * size + s ≡ k * size + r → s ≡ r
same_signal size l k s r same e = let leaders : l * size ≡ k * size = ap (λ x. x * size) same in omega (arith, leaders, e)

-- a flag that is set for k and r is found there alone
pub flag_set : (flags : List Bool) (size l k s r : ℕ) → s < size → r < size → k * size + r < length flags
    → get_or (set flags (k * size + r) true) (l * size + s) false ≡ (get_or flags (l * size + s) false || (k == l) && (r == s))
flag_set flags size l k s r low also inside = elim (cases_eq (l * size + s) (k * size + r)) [
  | inl same ↦
      let leader = same_leader size l k s r low also same in
      let signal = same_signal size l k s r leader same in
      let here : get_or (set flags (k * size + r) true) (l * size + s) false ≡ true =
      ap (λ i. get_or (set flags (k * size + r) true) i false) same ∙ get_or-set_same flags (k * size + r) true false inside in
      here ∙ sym (rw (eq-eqb k l (sym leader), eq-eqb r s (sym signal)) (or-true (get_or flags (l * size + s) false)))
  | inr other ↦ get_or-set_other flags (k * size + r) (l * size + s) true false other ∙ sym (or_none (get_or flags (l * size + s) false) ((k == l) && (r == s)) (apart (λ a b. other (rw (a, b) refl))))
]
  where
    or_none : (b c : Bool) → c ≡ false → (b || c) ≡ b
    or_none true c e = refl
    or_none false c e = e

    apart : (k ≡ l → r ≡ s → ⊥) → ((k == l) && (r == s)) ≡ false
    apart differ = elim (cases_eq k l) [
      | inr d ↦ rw (ne_eqb k l d) refl
      | inl a ↦ rw (eq-eqb k l a) (ne_eqb r s (λ b. differ a b))
    ]
