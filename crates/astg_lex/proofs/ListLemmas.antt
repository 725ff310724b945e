-- Lists of which nothing is taken or dropped, functions that pass over what is in front, and tests of two lists.
use Rattle.std.proofs.Common.{◌≡◌, ℕ, zero, suc, List, [], ◌∷◌, Bool, true, false, cond, take, drop, ◌++◌, refl, ◌∙◌}
use Rattle.std.proofs.lemmas.Bool.{and_from}
use Rattle.std.proofs.lemmas.List.Folds.{list_all-append}
use Rattle.std.specs.List.{list_all}

-- the first none
pub take-none : {X : Type 0} (xs : List X) → take zero xs ≡ []
take-none [] = refl
take-none (x ∷ xs) = refl

-- all but the first none
pub drop-none : {X : Type 0} (xs : List X) → drop zero xs ≡ xs
drop-none [] = refl
drop-none (x ∷ xs) = refl

-- the same either way
pub cond_same : {X : Type 0} (b : Bool) (x : X) → cond b x x ≡ x
cond_same true x = refl
cond_same false x = refl

-- a function that passes over the first n goes on with what is after them
pub passed-over : {X Y : Type 0} (after : ℕ → List X → Y) → ((n : ℕ) → after n [] ≡ after zero []) → ((n : ℕ) (x : X) (xs : List X) → after (suc n) (x ∷ xs) ≡ after n xs)
    → (n : ℕ) (xs : List X) → after n xs ≡ after zero (drop n xs)
passed-over after none more zero [] = refl
passed-over after none more (suc n) [] = none (suc n)
passed-over after none more zero (x ∷ xs) = refl
passed-over after none more (suc n) (x ∷ xs) = more n x xs ∙ passed-over after none more n xs

-- a test that all items of two lists pass
pub all-append : {X : Type 0} (p : X → Bool) (xs ys : List X) → list_all p xs ≡ true → list_all p ys ≡ true → list_all p (xs ++ ys) ≡ true
all-append p xs ys h k = list_all-append p xs ys ∙ and_from (list_all p xs) (list_all p ys) h k
