-- Where the first item stands that passes a test, and what stands before and after it.
use Rattle.std.proofs.Common.{◌≡◌, ℕ, zero, suc, ◌+◌, ◌≤◌, ◌<◌, ◌||◌, not, nat_lt, List, [], ◌∷◌, ◌++◌, Bool, true, false, cond, map, take, drop, length, length-take, length-drop, append-nil, inl, inr, refl, sym, ap, ◌∙◌, arith}
use Rattle.std.proofs.lemmas.Bool.{cases_Bool, cases_lt, or_parts, false≢true, lt-ltb, le-ltb}
use Rattle.std.proofs.lemmas.List.{length-take-le}
use Rattle.std.proofs.lemmas.List.Sums.{prefix_len-le-length}
use Rattle.std.specs.List.{list_any, position_or_len, before_first, after_first}
use Rattle.astg_lex.proofs.ListLemmas.{take-none, drop-none}

lt-suc : (a b : ℕ) → nat_lt a b ≡ nat_lt (suc a) (suc b)
lt-suc a b = elim (cases_lt a b) [
  | inl h ↦ lt-ltb a b h ∙ sym (lt-ltb (suc a) (suc b) (omega (arith, h)))
  | inr h ↦ le-ltb a b h ∙ sym (le-ltb (suc a) (suc b) (omega (arith, h)))
]

module _ {X : Type 0} (p : X → Bool) where
  -- the first item passes
  first-here : (x : X) (xs : List X) → p x ≡ true → position_or_len p (x ∷ xs) ≡ 0
  first-here x xs h = ap {B = ℕ} (λ b. cond (not b) (1 + position_or_len p xs) 0) h

  -- it doesn't
  first-later : (x : X) (xs : List X) → p x ≡ false → position_or_len p (x ∷ xs) ≡ suc (position_or_len p xs)
  first-later x xs h = ap {B = ℕ} (λ b. cond (not b) (1 + position_or_len p xs) 0) h ∙ (let e : 1 + position_or_len p xs ≡ suc (position_or_len p xs) = omega arith in e)

  before-here : (x : X) (xs : List X) → p x ≡ true → before_first p (x ∷ xs) ≡ []
  before-here x xs h = ap (λ n. take n (x ∷ xs)) (first-here x xs h)

  before-later : (x : X) (xs : List X) → p x ≡ false → before_first p (x ∷ xs) ≡ x ∷ before_first p xs
  before-later x xs h = ap (λ n. take n (x ∷ xs)) (first-later x xs h)

  after-here : (x : X) (xs : List X) → p x ≡ true → after_first p (x ∷ xs) ≡ xs
  after-here x xs h = ap (λ n. drop (n + 1) (x ∷ xs)) (first-here x xs h) ∙ drop-none xs

  pub after-later : (x : X) (xs : List X) → p x ≡ false → after_first p (x ∷ xs) ≡ after_first p xs
  after-later x xs h = let e : position_or_len p (x ∷ xs) + 1 ≡ suc (position_or_len p xs + 1) = omega (arith, first-later x xs h) in ap (λ n. drop n (x ∷ xs)) e

  -- one of the first items passes
  pub before-found : (xs ys : List X) → list_any p xs ≡ true → before_first p (xs ++ ys) ≡ before_first p xs
  before-found [] ys h = absurd (false≢true h)
  before-found (x ∷ xs) ys h = elim (cases_Bool (p x)) [
    | inl k ↦ before-here x (xs ++ ys) k ∙ sym (before-here x xs k)
    | inr k ↦ before-later x (xs ++ ys) k ∙ ap (λ zs. x ∷ zs) (before-found xs ys (sym (ap (λ b. b || list_any p xs) k) ∙ h)) ∙ sym (before-later x xs k)
  ]

  pub after-found : (xs ys : List X) → list_any p xs ≡ true → after_first p (xs ++ ys) ≡ after_first p xs ++ ys
  after-found [] ys h = absurd (false≢true h)
  after-found (x ∷ xs) ys h = elim (cases_Bool (p x)) [
    | inl k ↦ after-here x (xs ++ ys) k ∙ sym (ap (λ zs. zs ++ ys) (after-here x xs k))
    | inr k ↦ after-later x (xs ++ ys) k ∙ after-found xs ys (sym (ap (λ b. b || list_any p xs) k) ∙ h) ∙ sym (ap (λ zs. zs ++ ys) (after-later x xs k))
  ]

  -- none of the first items passes
  pub before-missing : (xs ys : List X) → list_any p xs ≡ false → before_first p (xs ++ ys) ≡ xs ++ before_first p ys
  before-missing [] ys h = refl
  before-missing (x ∷ xs) ys h = let k = or_parts (p x) (list_any p xs) h in before-later x (xs ++ ys) k.0 ∙ ap (λ zs. x ∷ zs) (before-missing xs ys k.1)

  pub after-missing : (xs ys : List X) → list_any p xs ≡ false → after_first p (xs ++ ys) ≡ after_first p ys
  after-missing [] ys h = refl
  after-missing (x ∷ xs) ys h = let k = or_parts (p x) (list_any p xs) h in after-later x (xs ++ ys) k.0 ∙ after-missing xs ys k.1

  -- none passes
  pub before-none : (xs : List X) → list_any p xs ≡ false → before_first p xs ≡ xs
  before-none xs h = ap (before_first p) (sym (append-nil xs)) ∙ before-missing xs [] h ∙ append-nil xs

  pub after-none : (xs : List X) → list_any p xs ≡ false → after_first p xs ≡ []
  after-none xs h = ap (after_first p) (sym (append-nil xs)) ∙ after-missing xs [] h

  -- of one item
  pub before-one : (x : X) → before_first p (x ∷ []) ≡ cond (p x) [] (x ∷ [])
  before-one x = elim (cases_Bool (p x)) [
    | inl k ↦ before-here x [] k ∙ sym (ap (λ b. cond b [] (x ∷ [])) k)
    | inr k ↦ before-later x [] k ∙ sym (ap (λ b. cond b [] (x ∷ [])) k)
  ]

  pub after-one : (x : X) → after_first p (x ∷ []) ≡ []
  after-one x = elim (cases_Bool (p x)) [ inl k ↦ after-here x [] k | inr k ↦ after-later x [] k ]

  -- as many stand before it as its number says
  pub length-before : (xs : List X) → length (before_first p xs) ≡ position_or_len p xs
  length-before xs = length-take-le (position_or_len p xs) xs (prefix_len-le-length (λ x. not (p x)) xs)

  -- one passes exactly where the first one stands within the list
  pub found-within : (xs : List X) → list_any p xs ≡ nat_lt (position_or_len p xs) (length xs)
  found-within [] = refl
  found-within (x ∷ xs) = elim (cases_Bool (p x)) [
    | inl k ↦ ap (λ b. b || list_any p xs) k ∙ sym (lt-ltb (position_or_len p (x ∷ xs)) (length (x ∷ xs)) (omega (arith, first-here x xs k)))
    | inr k ↦ ap (λ b. b || list_any p xs) k ∙ found-within xs ∙ lt-suc (position_or_len p xs) (length xs) ∙ ap (λ n. nat_lt n (length (x ∷ xs))) (sym (first-later x xs k))
  ]

  -- the first one that passes among mapped items
  pub first-map : {Y : Type 0} (f : Y → X) (ys : List Y) → position_or_len p (map f ys) ≡ position_or_len (λ y. p (f y)) ys
  first-map f [] = refl
  first-map f (y ∷ ys) = ap (λ n. cond (not (p (f y))) (1 + n) 0) (first-map f ys)

  -- a search may begin behind items that don't pass
  pub first-from : (n : ℕ) (xs : List X) → n ≤ position_or_len p xs → n + position_or_len p (drop n xs) ≡ position_or_len p xs
  first-from zero xs h = omega (arith, ap (position_or_len p) (drop-none xs))
  first-from (suc n) [] h = absurd (omega (arith, h))
  first-from (suc n) (x ∷ xs) h = elim (cases_Bool (p x)) [
    | inl k ↦ absurd (omega (arith, h, first-here x xs k))
    | inr k ↦ let e = first-from n xs (omega (arith, h, first-later x xs k)) in omega (arith, e, first-later x xs k)
  ]
