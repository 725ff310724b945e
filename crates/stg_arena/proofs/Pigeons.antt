-- Numbers below n that differ are at most n.
use Rattle.std.proofs.Common.{◌≡◌, ◌≢◌, ◌<◌, ◌≤◌, ◌-◌, get_or, ℕ, zero, suc, List, [], ◌∷◌, false, length, eqb, sym, ◌∙◌, ap, refl, inl, inr, arith}
use Rattle.std.specs.List.{list_any, IsDistinct}
use Rattle.std.proofs.lemmas.Bool.{cases_lt, ne_eqb, false≢true}
use Rattle.std.proofs.lemmas.Map.Keys.{IsDistinct-from_apart}
use Rattle.std.proofs.lemmas.Map.Steps.{length-le_from_distinct_below}

abbrev values : (ℕ → ℕ) → ℕ → List ℕ
values f zero = []
values f (suc d) = f d ∷ values f d

values_length : (f : ℕ → ℕ) (d : ℕ) → length (values f d) ≡ d
values_length f zero = refl
values_length f (suc d) = ap suc (values_length f d)

values_lack : (f : ℕ → ℕ) (q d : ℕ) → ((s : ℕ) → s < d → q ≢ f s) → list_any (eqb q) (values f d) ≡ false
values_lack f q zero lack = refl
values_lack f q (suc d) lack = rw (ne_eqb q (f d) (lack d (omega arith))) (values_lack f q d (λ s h. lack s (omega arith)))

values_at : (f : ℕ → ℕ) (n i d : ℕ) → i < n → get_or (values f n) i d ≡ f (n - 1 - i)
values_at f zero i d h = absurd (omega arith)
values_at f (suc n) zero d h = ap f (omega arith)
values_at f (suc n) (suc i) d h = values_at f n i d (omega arith) ∙ ap f (omega arith)

values_differ : (f : ℕ → ℕ) (n : ℕ) → ((s r : ℕ) → s < r → r < n → f r ≢ f s) → IsDistinct eqb (values f n)
values_differ f n differ = IsDistinct-from_apart eqb (values f n) (λ i j d l h.
    let long = values_length f n in
    rw (values_at f n i d (omega arith), values_at f n j d (omega arith)) (ne_eqb (f (n - 1 - i)) (f (n - 1 - j)) (differ (n - 1 - j) (n - 1 - i) (omega arith) (omega arith))))

-- different numbers below n are no more than n
pub at_most_below : (f : ℕ → ℕ) (d n : ℕ) → ((s : ℕ) → s < d → f s < n) → ((s r : ℕ) → s < r → r < d → f r ≢ f s) → d ≤ n
at_most_below f d n below differ = omega (
  arith,
  values_length f d,
  length-le_from_distinct_below (values f d) n (values_differ f d differ) (λ q found. elim (cases_lt q n) [
    | inl h ↦ h
    | inr h ↦ absurd (false≢true (sym (values_lack f q d (λ s l e. absurd (omega (arith, below s l)))) ∙ found))
  ]),
)
