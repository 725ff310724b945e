-- Whether some number below a bound passes a test.
use Rattle.std.proofs.Common.{◌≡◌, ℕ, suc, ◌+◌, ◌<◌, ◌||◌, Bool, true, false, List, [], ◌∷◌, ◌++◌, get_or, refl, ap, ◌∙◌, arith}
use Rattle.std.specs.List.{list_any, range_with_len}
use Rattle.std.proofs.lemmas.List.Folds.{list_any_at}
use Rattle.std.proofs.lemmas.List.FromFn.{length-range_with_len, get_or-range_with_len}
use Rattle.stg_net.proofs.Buckets.{range-push_zero}

any_push : (test : ℕ → Bool) (xs : List ℕ) (x : ℕ) → list_any test xs ≡ false → test x ≡ false → list_any test (xs ++ x ∷ []) ≡ false
any_push test [] x a b = rw b refl
any_push test (y ∷ xs) x a b = go (test y) a (λ e. any_push test xs x e b)
  where
    go : (t : Bool) → (t || list_any test xs) ≡ false → (list_any test xs ≡ false → list_any test (xs ++ x ∷ []) ≡ false) → (t || list_any test (xs ++ x ∷ [])) ≡ false
    go true e rest = e
    go false e rest = rest e

pub none_more : (test : ℕ → Bool) (n : ℕ) → list_any test (range_with_len 0 n) ≡ false → test n ≡ false → list_any test (range_with_len 0 (n + 1)) ≡ false
none_more test n a b =
    let e : n + 1 ≡ suc n = omega arith in
    ap (λ k. list_any test (range_with_len 0 k)) e ∙ ap (list_any test) (range-push_zero n) ∙ any_push test (range_with_len 0 n) n a b

pub one_passes : (test : ℕ → Bool) (n k : ℕ) → k < n → test k ≡ true → list_any test (range_with_len 0 n) ≡ true
one_passes test n k below e =
    let at : get_or (range_with_len 0 n) k 0 ≡ k = omega (arith, get_or-range_with_len 0 n k 0 below) in
    list_any_at test (range_with_len 0 n) k 0 (omega (arith, below, length-range_with_len 0 n)) (ap test at ∙ e)
