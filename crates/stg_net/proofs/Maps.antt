-- Facts on the elements of a mapped list.
use Rattle.std.proofs.Common.{◌≡◌, ◌<◌, ◌||◌, Bool, List, [], ◌∷◌, length, map, get_or, All, AllPairs, ap, refl, subst, sym, arith}
use Rattle.std.specs.List.{list_any}
use Rattle.std.proofs.lemmas.List.{length-map, get_or-map}

module _ {X Y : Type 0} (f : X → Y) where
  -- what holds of each image holds of each element
  pub All-from_map : (P : Y → Type 0) (xs : List X) → All P (map f xs) → All (λ x. P (f x)) xs
  All-from_map P xs all k d below =
      subst P (get_or-map f xs k d (f d) below) (all k (f d) (omega (arith, length-map xs f)))

  pub AllPairs-from_map : (R : Y → Y → Type 0) (xs : List X) → AllPairs R (map f xs) → AllPairs (λ x y. R (f x) (f y)) xs
  AllPairs-from_map R xs all i j d lt below =
      let first : i < length xs = omega arith in
      let e = get_or-map f xs i d (f d) first in
      let h = get_or-map f xs j d (f d) below in
      subst (λ y. R (f (get_or xs i d)) y) h (subst (λ y. R y (get_or (map f xs) j (f d))) e (all i j (f d) lt (omega (arith, length-map xs f))))

  -- what holds of the images of each pair holds of each pair of images
  pub AllPairs-map : (R : Y → Y → Type 0) (xs : List X) → AllPairs (λ x y. R (f x) (f y)) xs → AllPairs R (map f xs)
  AllPairs-map R [] all i j d lt below = absurd (omega arith)
  AllPairs-map R (x ∷ xs) all i j d lt below =
      let there : j < length (x ∷ xs) = omega (arith, length-map (x ∷ xs) f) in
      let first : i < length (x ∷ xs) = omega arith in
      let e = get_or-map f (x ∷ xs) i x d first in
      let h = get_or-map f (x ∷ xs) j x d there in
      subst (λ y. R (get_or (map f (x ∷ xs)) i d) y) (sym h) (subst (λ y. R y (f (get_or (x ∷ xs) j x))) (sym e) (all i j x lt there))

  -- an image passes a test where an element passes it by its image
  pub list_any-map : (p : Y → Bool) (xs : List X) → list_any p (map f xs) ≡ list_any (λ x. p (f x)) xs
  list_any-map p [] = refl
  list_any-map p (x ∷ xs) = ap (λ b. p (f x) || b) (list_any-map p xs)
