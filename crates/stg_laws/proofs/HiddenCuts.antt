-- Cuts of runs in which a hidden transition is left out, or put in the place of another.
use Rattle.std.proofs.Common.{◌≡◌, ◌≢◌, ℕ, List, [], ◌∷◌, map, false, cond, eqb, eq-eqb, Option, Some, None, refl, sym, ◌∙◌, ap, inl, inr}
use Rattle.std.specs.List.{cons_option}
use Rattle.std.proofs.lemmas.Bool.{cases_eq, ne_eqb}
use Rattle.stg_net.specs.Graph.{Graph, FullName, full_name_at, is_among, has_signal_of}
use Rattle.stg_laws.specs.Cuts.{names_of, cut, names_among}
use Rattle.stg_laws.specs.LeaveOut.{leave_out}

-- h has the names of g, but for t
pub record HasNamesBut (g h : Graph) (t : ℕ) : Type 0 where
  pub names : (u : ℕ) → u ≢ t → full_name_at h u ≡ full_name_at g u

-- u in the place of t
abbrev pub put_for : ℕ → ℕ → ℕ → ℕ
put_for t u x = cond (eqb x t) u x

module _ (signals : List (List ℕ)) where
  -- a name that isn't seen is left out of a cut
  cut-hidden : (o : Option FullName) (names : List FullName) → has_signal_of signals o ≡ false
      → names_among signals (cons_option o names) ≡ names_among signals names
  cut-hidden None names e = refl
  cut-hidden (Some name) names e = rw e

  -- one more name on both sides
  pub cut-next : (o : Option FullName) (xs ys : List FullName) → names_among signals xs ≡ names_among signals ys
      → names_among signals (cons_option o xs) ≡ names_among signals (cons_option o ys)
  cut-next None xs ys e = e
  cut-next (Some name) xs ys e = ap (λ zs. cond (is_among signals name.signal) (name ∷ zs) zs) e

  module _ (g h : Graph) (t : ℕ) (same : HasNamesBut g h t) (hidden : has_signal_of signals (full_name_at g t) ≡ false) where
    -- a hidden transition can be left out
    pub cut-leave_out : (w : List ℕ) → cut h signals (leave_out t w) ≡ cut g signals w
    cut-leave_out [] = refl
    cut-leave_out (u ∷ w) = elim (cases_eq u t) [
      | inl e ↦ rw (eq-eqb u t e) (rw e (cut-leave_out w ∙ sym (cut-hidden (full_name_at g t) (names_of g w) hidden)))
      | inr n ↦ rw (ne_eqb u t n) (rw (same.names u n) (cut-next (full_name_at g u) (names_of h (leave_out t w)) (names_of g w) (cut-leave_out w)))
    ]

    -- another hidden transition can stand for it
    pub cut-put_for : (u : ℕ) → t ≢ u → has_signal_of signals (full_name_at g u) ≡ false
        → (w : List ℕ) → cut h signals (map (put_for t u) w) ≡ cut g signals w
    cut-put_for u differ u_hidden [] = refl
    cut-put_for u differ u_hidden (x ∷ w) =
        let rest = cut-put_for u differ u_hidden w in
        elim (cases_eq x t) [
          | inl e ↦
              let first = cut-hidden (full_name_at g u) (names_of h (map (put_for t u) w)) u_hidden in
              let last = cut-hidden (full_name_at g t) (names_of g w) hidden in
              rw (eq-eqb x t e) (rw e (rw (same.names u (λ d. differ (sym d))) (first ∙ rest ∙ sym last)))
          | inr n ↦ rw (ne_eqb x t n) (rw (same.names x n) (cut-next (full_name_at g x) (names_of h (map (put_for t u) w)) (names_of g w) rest))
        ]
