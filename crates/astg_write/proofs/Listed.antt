-- What is listed for each number below a bound, and what appears first.
use Rattle.std.proofs.Common.{◌≡◌, ◌+◌, ◌<◌, ◌≤◌, ℕ, zero, suc, List, [], ◌∷◌, ◌++◌, Bool, true, false, length, map, take, get_or, refl, sym, ap, ◌∙◌, arith, inl, inr, All, AllPairs, append_assoc, append-nil, length-append}
use Rattle.std.proofs.lemmas.Bool.{or_from, or_right, or_left, cases_eq}
use Rattle.std.proofs.lemmas.List.{take_more, length-map}
use Rattle.std.proofs.lemmas.List.Elements.{All-head, All-tail}
use Rattle.std.proofs.lemmas.List.Folds.{list_any-append}
use Rattle.std.specs.List.{list_any}
use Rattle.stg_net.specs.Ordered.{listed_below}
use Rattle.astg_read.specs.Lists.{has_repeat}

-- of two lists, none passes
pub any-append_none : {X : Type 0} (f : X → Bool) (xs ys : List X) → list_any f xs ≡ false → list_any f ys ≡ false → list_any f (xs ++ ys) ≡ false
any-append_none f xs ys h k = list_any-append f xs ys ∙ or_from (list_any f xs) (list_any f ys) h k

-- none of those listed passes
pub any-listed_none : {X : Type 0} (f : X → Bool) (g : ℕ → X) (n : ℕ) → ((k : ℕ) → k < n → f (g k) ≡ false) → list_any f (listed_below (λ k. g k ∷ []) n) ≡ false
any-listed_none f g zero h = refl
any-listed_none f g (suc n) h = any-append_none f (listed_below (λ k. g k ∷ []) n) (g n ∷ []) (any-listed_none f g n (λ k b. h k (omega (arith, b)))) (or_from (f (g n)) false (h n (omega arith)) refl)

-- one of those listed passes
pub any-append_right : {X : Type 0} (f : X → Bool) (xs ys : List X) → list_any f ys ≡ true → list_any f (xs ++ ys) ≡ true
any-append_right f xs ys h = list_any-append f xs ys ∙ or_right (list_any f xs) (list_any f ys) h

pub any-append_left : {X : Type 0} (f : X → Bool) (xs ys : List X) → list_any f xs ≡ true → list_any f (xs ++ ys) ≡ true
any-append_left f xs ys h = list_any-append f xs ys ∙ or_left (list_any f xs) (list_any f ys) h

pub any-listed : {X : Type 0} (f : X → Bool) (g : ℕ → X) (n k : ℕ) → k < n → f (g k) ≡ true → list_any f (listed_below (λ k. g k ∷ []) n) ≡ true
any-listed f g zero k b h = absurd (omega (arith, b))
any-listed f g (suc n) k b h = elim (cases_eq k n) [
  | inl e ↦ any-append_right f (listed_below (λ k. g k ∷ []) n) (g n ∷ []) (or_left (f (g n)) false (ap (λ j. f (g j)) (sym e) ∙ h))
  | inr d ↦ any-append_left f (listed_below (λ k. g k ∷ []) n) (g n ∷ []) (any-listed f g n k (omega (arith, b, d)) h)
]

-- fewer numbers list no more
pub length-listed-le : {X : Type 0} (f : ℕ → List X) (m n : ℕ) → m ≤ n → length (listed_below f m) ≤ length (listed_below f n)
length-listed-le f m zero h = let e : m ≡ zero = omega (arith, h) in omega (arith, ap (λ k. length (listed_below f k)) e)
length-listed-le f m (suc n) h = elim (cases_eq m (suc n)) [
  | inl e ↦ omega (arith, ap (λ k. length (listed_below f k)) e)
  | inr d ↦ let l = length-append (listed_below f n) (f n) in let r = length-listed-le f m n (omega (arith, h, d)) in omega (arith, l, r)
]

pub length-listed-map : {X Y : Type 0} (g : ℕ → X → Y) (f : ℕ → List X) (n : ℕ) → length (listed_below (λ k. map (g k) (f k)) n) ≡ length (listed_below f n)
length-listed-map g f zero = refl
length-listed-map g f (suc n) =
    let a = length-append (listed_below (λ k. map (g k) (f k)) n) (map (g n) (f n)) in
    let b = length-append (listed_below f n) (f n) in
    let c = length-map (f n) (g n) in
    omega (arith, a, b, c, length-listed-map g f n)

-- a list is what is listed of its elements
pub listed-all : {X : Type 0} (xs : List X) (d : X) (n : ℕ) → n ≤ length xs → listed_below (λ k. get_or xs k d ∷ []) n ≡ take n xs
listed-all [] d zero h = refl
listed-all (x ∷ xs) d zero h = refl
listed-all xs d (suc n) h =
    ap (λ l. l ++ get_or xs n d ∷ []) (listed-all xs d n (omega (arith, h))) ∙ sym (take_more xs n d (omega (arith, h))) ∙ (let e : n + 1 ≡ suc n = omega arith in ap (λ k. take k xs) e)

-- the rest of what is listed
pub listed-add : {X : Type 0} (f : ℕ → List X) (m n : ℕ) → listed_below f (m + n) ≡ listed_below f m ++ listed_below (λ k. f (m + k)) n
listed-add f m zero = (let e : m + zero ≡ m = omega arith in ap (listed_below f) e) ∙ sym (append-nil (listed_below f m))
listed-add f m (suc n) =
    (let e : m + suc n ≡ suc (m + n) = omega arith in ap (listed_below f) e)
    ∙ ap (λ l. l ++ f (m + n)) (listed-add f m n)
    ∙ append_assoc (listed_below f m) (listed_below (λ k. f (m + k)) n) (f (m + n))

pub listed-agree : {X : Type 0} (f g : ℕ → List X) (n : ℕ) → ((k : ℕ) → k < n → f k ≡ g k) → listed_below f n ≡ listed_below g n
listed-agree f g zero h = refl
listed-agree f g (suc n) h = λ j. listed-agree f g n (λ k b. h k (omega (arith, b))) j ++ h n (omega arith) j

-- new ones that differ from the old ones and from each other
pub again-none : {X : Type 0} (same : X → X → Bool) (old new : List X) → All (λ x. list_any (same x) old ≡ false) new → AllPairs (λ x y. same y x ≡ false) new → has_repeat same old new ≡ false
again-none {X} same old [] h apart = refl
again-none {X} same old (x ∷ new) h apart =
    let P : X → Type 0 = λ y. list_any (same y) old ≡ false in
    or_from (list_any (same x) old) (has_repeat same (old ++ x ∷ []) new) (All-head P x new h)
    (again-none same (old ++ x ∷ []) new
    (λ k d b. any-append_none (same (get_or new k d)) old (x ∷ []) (All-tail P x new h k d b) (or_from (same (get_or new k d) x) false (apart 0 (suc k) d (omega arith) (omega (arith, b))) refl))
    (λ i j d l b. apart (suc i) (suc j) d (omega (arith, l)) (omega (arith, b))))
