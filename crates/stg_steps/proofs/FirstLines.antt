-- The first lines of a text, and how many LF bytes it has.
use Rattle.std.proofs.Common.{◌≡◌, ℕ, zero, suc, ◌+◌, ◌≤◌, ◌==◌, not, true, false, cond, List, [], ◌∷◌, ◌++◌, refl, sym, ap, ◌∙◌, arith, inl, inr}
use Rattle.std.proofs.lemmas.Bool.{cases_Bool, and_parts, not-true}
use Rattle.std.proofs.lemmas.List.Sums.{sum_by-cons}
use Rattle.astg_lex.specs.Lines.{line_ends}
use Rattle.stg_steps.specs.Logs.{first_lines}
use Rattle.stg_steps.proofs.Gaps.{lacks}

-- one byte more
pub line_ends-more : (b : ℕ) (bs : List ℕ) → (b == 10) ≡ true → line_ends (b ∷ bs) ≡ line_ends bs + 1
line_ends-more b bs k =
    let e = sum_by-cons (λ x. cond (x == 10) 1 0) b bs in
    let one : ◌≡◌ {A = ℕ} (cond (b == 10) 1 0) 1 = ap {B = ℕ} (λ s. cond s 1 0) k in
    omega (arith, e, one)

pub line_ends-same : (b : ℕ) (bs : List ℕ) → (b == 10) ≡ false → line_ends (b ∷ bs) ≡ line_ends bs
line_ends-same b bs k =
    let e = sum_by-cons (λ x. cond (x == 10) 1 0) b bs in
    let none : ◌≡◌ {A = ℕ} (cond (b == 10) 1 0) 0 = ap {B = ℕ} (λ s. cond s 1 0) k in
    omega (arith, e, none)

-- a text without LF
pub line_ends-none : (w : List ℕ) → lacks 10 w ≡ true → line_ends w ≡ 0
line_ends-none [] h = refl
line_ends-none (b ∷ bs) h =
    let p = and_parts (not (b == 10)) (lacks 10 bs) h in
    line_ends-same b bs (not-true (b == 10) p.0) ∙ line_ends-none bs p.1

-- a line in front
pub line_ends-line : (w rest : List ℕ) → lacks 10 w ≡ true → line_ends (w ++ 10 ∷ rest) ≡ line_ends rest + 1
line_ends-line [] rest h = line_ends-more 10 rest refl
line_ends-line (b ∷ bs) rest h =
    let p = and_parts (not (b == 10)) (lacks 10 bs) h in
    line_ends-same b (bs ++ 10 ∷ rest) (not-true (b == 10) p.0) ∙ line_ends-line bs rest p.1

pub first_lines-zero : (text : List ℕ) → first_lines zero text ≡ []
first_lines-zero [] = refl
first_lines-zero (b ∷ bs) = refl

pub first_lines-line : (k : ℕ) (w rest : List ℕ) → lacks 10 w ≡ true → first_lines (suc k) (w ++ 10 ∷ rest) ≡ w ++ 10 ∷ first_lines k rest
first_lines-line k [] rest h = refl
first_lines-line k (b ∷ bs) rest h =
    let p = and_parts (not (b == 10)) (lacks 10 bs) h in
    ap (λ s. b ∷ first_lines (cond s k (suc k)) (bs ++ 10 ∷ rest)) (not-true (b == 10) p.0) ∙ ap (λ xs. b ∷ xs) (first_lines-line k bs rest p.1)

-- fewer lines begin more lines
abbrev GoesOn : List ℕ → List ℕ → Type 0
GoesOn all front = (rest : List ℕ) × (all ≡ front ++ rest)

pub first_lines-fewer : (text : List ℕ) (j k : ℕ) → j ≤ k → GoesOn (first_lines k text) (first_lines j text)
first_lines-fewer [] j k le = ([], refl)
first_lines-fewer (b ∷ bs) zero k le = (first_lines k (b ∷ bs), refl)
first_lines-fewer (b ∷ bs) (suc j) zero le = absurd (omega (arith, le))
first_lines-fewer (b ∷ bs) (suc j) (suc k) le = elim (cases_Bool (b == 10)) [
  | inl e ↦
      let more = first_lines-fewer bs j k (omega (arith, le)) in
      (more.0, ap (λ s. b ∷ first_lines (cond s k (suc k)) bs) e ∙ ap (λ xs. b ∷ xs) more.1 ∙ sym (ap (λ s. b ∷ first_lines (cond s j (suc j)) bs ++ more.0) e))
  | inr e ↦
      let more = first_lines-fewer bs (suc j) (suc k) le in
      (more.0, ap (λ s. b ∷ first_lines (cond s k (suc k)) bs) e ∙ ap (λ xs. b ∷ xs) more.1 ∙ sym (ap (λ s. b ∷ first_lines (cond s j (suc j)) bs ++ more.0) e))
]
