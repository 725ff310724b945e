-- Numbers of at most nine digits, written and read.
use Rattle.std.proofs.Common.{◌≡◌, ℕ, ◌<◌, ◌≤◌, ◌^◌, ◌==◌, ◌&&◌, nat_le, not, true, false, cond, List, [], ◌∷◌, length, get_or, Some, None, refl, sym, ap, ◌∙◌, arith, inl, inr}
use Rattle.std.proofs.lemmas.Bool.{and_parts, and_from, cases_Bool, cases_eq, false_from_ne_true, eqb-true, eq-eqb, le-leb, leb-true, not-true, true≢false}
use Rattle.std.proofs.lemmas.Fmt.{digits_decimal, digits_value-decimal, length-decimal-le, decimal_nonempty, decimal_digit, first_decimal, decimal-digits_value}
use Rattle.std.proofs.lemmas.Str.Parse.{digits_value_short}
use Rattle.std.specs.List.{list_all}
use Rattle.std.specs.Prelude.{decimal}
use Rattle.stg_net.specs.Names.{is_digit}
use Rattle.astg_lex.specs.Numbers.{value_after, is_number, number}
use Rattle.astg_lex.proofs.DecimalLemmas.{numerals, number-decimal}
use Rattle.stg_steps.specs.inner.Reading.{has_leading_zero, number_in}

-- a first zero stands alone
no_leading : (w : List ℕ) → (get_or w 0 0 ≡ 48 → length w ≡ 1) → has_leading_zero w ≡ false
no_leading [] h = refl
no_leading (c ∷ []) h = refl
no_leading (c ∷ d ∷ cs) h = false_from_ne_true (c == 48) (λ e. let l = h (eqb-true c 48 e) in absurd (omega (arith, l)))

alone : (w : List ℕ) → has_leading_zero w ≡ false → get_or w 0 0 ≡ 48 → length w ≡ 1
alone [] h z = absurd (omega (arith, z))
alone (c ∷ []) h z = refl
alone (c ∷ d ∷ cs) h z = absurd (true≢false (sym (eq-eqb c 48 z) ∙ h))

first_alone : (k : ℕ) → k < 1000000000 → get_or (decimal k) 0 0 ≡ 48 → length (decimal k) ≡ 1
first_alone k h z = elim (cases_eq k 0) [
  | inl e ↦ ap (λ m. length (decimal m)) e ∙ ap length (decimal_digit 0 (omega arith))
  | inr s ↦ let first = first_decimal k (omega (arith, s)) (omega (arith, h)) in absurd (omega (arith, first, z))
]

-- a written number is read as itself
pub number_in-decimal : (k : ℕ) → k < 1000000000 → number_in (decimal k) ≡ Some k
number_in-decimal k h = ap (λ b. cond b None (number (decimal k))) (no_leading (decimal k) (first_alone k h)) ∙ number-decimal k h

some_same : {X : Type 0} (a b : X) → Some a ≡ Some b → a ≡ b
some_same a b e = cc

some_none : {X : Type 0} (a : X) → None ≡ Some a → ⊥
some_none a e = cc

-- a word that is read as a number is that number, written
pub number_in-told : (w : List ℕ) (k : ℕ) → number_in w ≡ Some k → (k < 1000000000) × (w ≡ decimal k)
number_in-told w k e = elim (cases_Bool (has_leading_zero w)) [
  | inl zero ↦ absurd (some_none k (sym (ap (λ b. cond b None (number w)) zero) ∙ e))
  | inr lone ↦
      let read : number w ≡ Some k = sym (ap (λ b. cond b None (number w)) lone) ∙ e in
      elim (cases_Bool (is_number w)) [
        | inl test ↦
            let q = and_parts (nat_le 1 (length w) && nat_le (length w) 9) (list_all is_digit w) test in
            let r = and_parts (nat_le 1 (length w)) (nat_le (length w) 9) q.0 in
            let value : value_after 0 w ≡ k = some_same (value_after 0 w) k (sym (ap (λ b. cond b (Some (value_after 0 w)) None) test) ∙ read) in
            let some = leb-true 1 (length w) r.0 in
            let small : value_after 0 w < 10 ^ 9 = digits_value_short numerals w 9 q.1 (leb-true (length w) 9 r.1) in (
              omega (arith, value, small),
              sym (decimal-digits_value numerals w q.1 (omega (arith, some)) (alone w lone) (omega (arith, small))) ∙ ap decimal value,
            )
        | inr test ↦ absurd (some_none k (sym (ap (λ b. cond b (Some (value_after 0 w)) None) test) ∙ read))
      ]
]
