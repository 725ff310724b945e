-- Which elements lists have that `map`, `filter` and `flat_map` make.
use Rattle.std.proofs.Common.{◌≡◌, zero, suc, ◌<◌, List, [], ◌∷◌, ◌++◌, map, filter, flat_map, length, get_or, Bool, true, Contains, All, refl, inl, inr, arith}
use Rattle.std.proofs.lemmas.Bool.{cases_Bool}
use Rattle.std.proofs.lemmas.List.Elements.{Contains-append_left, Contains-append_right, All-append, All-nil, All-head, All-tail}

-- one map in place of two
pub map-map : {X Y Z : Type 0} (f : X → Z) (g : Y → Z) (h : X → Y) → ((x : X) → f x ≡ g (h x))
    → (xs : List X)
    → map f xs ≡ map g (map h xs)
map-map f g h same [] = refl
map-map f g h same (x ∷ xs) = λ i. same x i ∷ map-map f g h same xs i

contains_first : {X : Type 0} (x : X) (xs : List X) → Contains (x ∷ xs) x
contains_first x xs = (0, omega arith, refl)

contains_later : {X : Type 0} (x y : X) (xs : List X) → Contains xs y → Contains (x ∷ xs) y
contains_later x y xs c = (suc c.0, omega (arith, c.1), c.2)

-- an element is the first one, or one of the others
contains_cases : {X : Type 0} (P : X → Type 0) (x y : X) (xs : List X) → Contains (x ∷ xs) y
    → (x ≡ y → P y) → (Contains xs y → P y) → P y
contains_cases P x y xs c first later = elim c.0 as (λ k. (k < suc (length xs)) → (get_or (x ∷ xs) k y ≡ y) → P y) [
  | zero ↦ λ l e. first e
  | suc k ↦ λ l e. later (k, omega arith, e)
] c.1 c.2

-- the image of an element is one of the images
pub Contains-map : {X Y : Type 0} (f : X → Y) (xs : List X) (x : X) → Contains xs x
    → Contains (map f xs) (f x)
Contains-map f [] x c = absurd (omega (arith, c.1))
Contains-map f (y ∷ xs) x c = contains_cases (λ x. Contains (f y ∷ map f xs) (f x)) y x xs c
    (λ e. rw (← e) (contains_first (f y) (map f xs)))
    (λ d. contains_later (f y) (f x) (map f xs) (Contains-map f xs x d))

-- an element that passes the test stays
pub Contains-filter : {X : Type 0} (p : X → Bool) (xs : List X) (x : X) → p x ≡ true → Contains xs x
    → Contains (filter p xs) x
Contains-filter p [] x t c = absurd (omega (arith, c.1))
Contains-filter p (y ∷ xs) x t c =
    contains_cases (λ x. p x ≡ true → Contains (filter p (y ∷ xs)) x) y x xs c
    (λ e t. rw (rw (← e) at t) (rw (← e) (contains_first y (filter p xs))))
    (λ d t. elim (cases_Bool (p y)) [
      | inl b ↦ rw b (contains_later y x (filter p xs) (Contains-filter p xs x t d))
      | inr b ↦ rw b (Contains-filter p xs x t d)
    ]) t

-- what an element gives is in the whole
pub Contains-flat_map : {X Y : Type 0} (f : X → List Y) (xs : List X) (x : X) (y : Y)
    → Contains xs x → Contains (f x) y → Contains (flat_map f xs) y
Contains-flat_map f [] x y c d = absurd (omega (arith, c.1))
Contains-flat_map f (z ∷ xs) x y c d =
    contains_cases (λ x. Contains (f x) y → Contains (f z ++ flat_map f xs) y) z x xs c
    (λ e d. Contains-append_left (f z) (flat_map f xs) y (rw (← e) at d))
    (λ c d. Contains-append_right (f z) (flat_map f xs) y (Contains-flat_map f xs x y c d)) d

-- what holds of all that each element gives holds of the whole
pub All-flat_map : {X Y : Type 0} (P : X → Type 0) (Q : Y → Type 0) (f : X → List Y)
    → ((x : X) → P x → All Q (f x)) → (xs : List X) → All P xs
    → All Q (flat_map f xs)
All-flat_map P Q f each [] a = All-nil Q
All-flat_map P Q f each (x ∷ xs) a =
    All-append Q (f x) (flat_map f xs) (each x (All-head P x xs a)) (All-flat_map P Q f each xs (All-tail P x xs a))
