-- What is listed one by one for each number below a bound.
use Rattle.std.proofs.Common.{◌≡◌, ℕ, zero, suc, ◌<◌, Bool, true, false, cond, nat_lt, List, [], ◌∷◌, length, get_or, length-append, position, Some, None, refl, sym, ap, ◌∙◌, arith, inl, inr}
use Rattle.std.proofs.lemmas.Bool.{cases_eq, lt-ltb, le-ltb}
use Rattle.std.proofs.lemmas.List.{get_or_append_left, get_or_at}
use Rattle.std.proofs.lemmas.List.Sums.{position_or_len_is}
use Rattle.std.specs.List.{position_or_len}
use Rattle.stg_net.specs.Ordered.{listed_below}

module _ {X : Type 0} (g : ℕ → X) where
  abbrev listed : ℕ → List X
  listed n = listed_below (λ k. g k ∷ []) n

  -- as many are listed as there are numbers
  pub length-listed : (n : ℕ) → length (listed n) ≡ n
  length-listed zero = refl
  length-listed (suc n) = let e = length-append (listed n) (g n ∷ []) in omega (arith, e, length-listed n)

  -- what is listed of a number stands at the number
  pub get-listed : (n k : ℕ) (d : X) → k < n → get_or (listed n) k d ≡ g k
  get-listed zero k d b = absurd (omega (arith, b))
  get-listed (suc n) k d b = elim (cases_eq k n) [
    | inl e ↦ get_or_at (listed n) (g n) [] d k (omega (arith, length-listed n, e)) ∙ ap g (sym e)
    | inr a ↦ get_or_append_left (listed n) (g n ∷ []) d k (omega (arith, length-listed n, b, a)) ∙ get-listed n k d (omega (arith, b, a))
  ]

  module _ (f : X → Bool) where
    -- the first one that passes stands at its number
    pub position-listed : (n k : ℕ) → k < n → f (g k) ≡ true → ((j : ℕ) → j < k → f (g j) ≡ false) → position f (listed n) ≡ Some k
    position-listed n k b h before =
        let xs = listed n in
        let long = length-listed n in
        let at : position_or_len f xs ≡ k = position_or_len_is f xs k (g 0) (omega (arith, long, b))
        (λ j jb. ap f (get-listed n j (g 0) (omega (arith, jb, b))) ∙ before j jb) (λ _. ap f (get-listed n k (g 0) b) ∙ h) in
        ap (λ m. cond (nat_lt m (length xs)) (Some m) None) at ∙ ap (λ t. cond t (Some k) None) (lt-ltb k (length xs) (omega (arith, long, b)))

    -- where none passes, none is found
    pub position-unlisted : (n : ℕ) → ((j : ℕ) → j < n → f (g j) ≡ false) → position f (listed n) ≡ None
    position-unlisted n none =
        let xs = listed n in
        let long = length-listed n in
        let at : position_or_len f xs ≡ n = position_or_len_is f xs n (g 0) (omega (arith, long))
        (λ j jb. ap f (get-listed n j (g 0) jb) ∙ none j jb) (λ b. absurd (omega (arith, b, long))) in
        ap (λ m. cond (nat_lt m (length xs)) (Some m) None) at ∙ ap (λ t. cond t (Some n) None) (le-ltb n (length xs) (omega (arith, long)))
