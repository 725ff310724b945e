-- Runs without one transition, and runs of one transition alone.
use Rattle.std.proofs.Common.{◌≡◌, ◌≢◌, ℕ, zero, suc, List, [], ◌∷◌, ◌++◌, replicate, refl, ap, inl, inr, eq-eqb}
use Rattle.std.proofs.lemmas.Bool.{cases_eq, ne_eqb}
use Rattle.stg_laws.specs.LeaveOut.{leave_out}

-- the transition itself is left out
pub leave_out-same : (t : ℕ) (w : List ℕ) → leave_out t (t ∷ w) ≡ leave_out t w
leave_out-same t w = rw (eq-eqb t t refl)

-- another one stays
pub leave_out-other : (t u : ℕ) (w : List ℕ) → u ≢ t → leave_out t (u ∷ w) ≡ u ∷ leave_out t w
leave_out-other t u w h = rw (ne_eqb u t h)

-- what is left of two lists one after the other
pub leave_out-append : (t : ℕ) (v w : List ℕ)
    → leave_out t (v ++ w) ≡ leave_out t v ++ leave_out t w
leave_out-append t [] w = refl
leave_out-append t (u ∷ v) w = elim (cases_eq u t) [
  | inl e ↦ rw (eq-eqb u t e) (leave_out-append t v w)
  | inr n ↦ rw (ne_eqb u t n) (ap (λ x. u ∷ x) (leave_out-append t v w))
]

-- nothing is left of the transition alone
pub leave_out-replicate : (t k : ℕ) → leave_out t (replicate k t) ≡ []
leave_out-replicate t zero = refl
leave_out-replicate t (suc k) = rw (eq-eqb t t refl) (leave_out-replicate t k)
