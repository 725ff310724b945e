-- Lists in which nothing stands again.
use Rattle.std.proofs.Common.{◌≡◌, List, [], ◌∷◌, ◌++◌, Bool, true, false, cond, ◌||◌, inl, inr, refl, sym, ap, ◌∙◌, append_assoc, append-nil}
use Rattle.std.proofs.Math.Bool.{or-false, or_assoc}
use Rattle.astg_lex.proofs.ListLemmas.{all-append}
use Rattle.std.proofs.lemmas.Bool.{cases_Bool, and_parts, and_from, or_left, or_right}
use Rattle.std.specs.List.{list_any, list_all}
use Rattle.astg_read.specs.Lists.{has_repeat, with_new, firsts}

module _ {X : Type 0} (same : X → X → Bool) where
  -- first the ones, then the others after them
  pub again-append : (old xs ys : List X) → has_repeat same old (xs ++ ys) ≡ (has_repeat same old xs || has_repeat same (old ++ xs) ys)
  again-append old [] ys = ap (λ os. has_repeat same os ys) (sym (append-nil old))
  again-append old (x ∷ xs) ys =
      ap (λ b. list_any (same x) old || b) (again-append (old ++ x ∷ []) xs ys ∙ ap (λ os. has_repeat same (old ++ x ∷ []) xs || has_repeat same os ys) (append_assoc old (x ∷ []) xs))
      ∙ sym (or_assoc (list_any (same x) old) (has_repeat same (old ++ x ∷ []) xs) (has_repeat same (old ++ x ∷ xs) ys))

  -- more of them
  pub again-more : (xs ys : List X) → has_repeat same [] xs ≡ false → has_repeat same xs ys ≡ false → has_repeat same [] (xs ++ ys) ≡ false
  again-more xs ys h k = again-append [] xs ys ∙ (λ j. h j || k j)

  -- one that is added doesn't stand again
  again-with_new : (seen : List X) (x : X) → has_repeat same [] seen ≡ false → has_repeat same [] (with_new same seen x) ≡ false
  again-with_new seen x h = elim (cases_Bool (list_any (same x) seen)) [
    | inl k ↦ ap (λ b. has_repeat same [] (cond b seen (seen ++ x ∷ []))) k ∙ h
    | inr k ↦ ap (λ b. has_repeat same [] (cond b seen (seen ++ x ∷ []))) k ∙ again-more seen (x ∷ []) h (or-false (list_any (same x) seen) ∙ k)
  ]

  pub again-firsts : (seen xs : List X) → has_repeat same [] seen ≡ false → has_repeat same [] (firsts same seen xs) ≡ false
  again-firsts seen [] h = h
  again-firsts seen (x ∷ xs) h = again-firsts (with_new same seen x) xs (again-with_new seen x h)

  all-with_new : (p : X → Bool) (seen : List X) (x : X) → list_all p seen ≡ true → p x ≡ true → list_all p (with_new same seen x) ≡ true
  all-with_new p seen x h k = elim (cases_Bool (list_any (same x) seen)) [
    | inl e ↦ ap (λ b. list_all p (cond b seen (seen ++ x ∷ []))) e ∙ h
    | inr e ↦ ap (λ b. list_all p (cond b seen (seen ++ x ∷ []))) e ∙ all-append p seen (x ∷ []) h (and_from (p x) true k refl)
  ]

  pub all-firsts : (p : X → Bool) (seen xs : List X) → list_all p seen ≡ true → list_all p xs ≡ true → list_all p (firsts same seen xs) ≡ true
  all-firsts p seen [] h k = h
  all-firsts p seen (x ∷ xs) h k = let q = and_parts (p x) (list_all p xs) k in all-firsts p (with_new same seen x) xs (all-with_new p seen x h q.0) q.1

  -- one that was added is there
  pub any-with_new : (seen : List X) (x : X) → same x x ≡ true → list_any (same x) (with_new same seen x) ≡ true
  any-with_new seen x r = elim (cases_Bool (list_any (same x) seen)) [
    | inl e ↦ ap (λ b. list_any (same x) (cond b seen (seen ++ x ∷ []))) e ∙ e
    | inr e ↦ ap (λ b. list_any (same x) (cond b seen (seen ++ x ∷ []))) e ∙ last seen
  ]
    where
      last : (ys : List X) → list_any (same x) (ys ++ x ∷ []) ≡ true
      last [] = or_left (same x x) false r
      last (y ∷ ys) = or_right (same x y) (list_any (same x) (ys ++ x ∷ [])) (last ys)
