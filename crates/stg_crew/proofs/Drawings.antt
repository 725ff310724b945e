-- The groups that a worker has drawn.
use Rattle.std.proofs.Common.{◌≡◌, ℕ, zero, suc, ◌<◌, List, [], ◌∷◌, ◌++◌, All, arith}
use Rattle.std.proofs.lemmas.List.{map-append}
use Rattle.std.proofs.lemmas.List.Elements.{All-append, All-cons, All-nil}
use Rattle.stg_crew.specs.declared.worker.Drawn.{Drawn}
use Rattle.stg_crew.specs.Drawing.{groups_of}

pub groups-more : (all : List Drawn) (d : Drawn) → groups_of (all ++ d ∷ []) ≡ groups_of all ++ d.group ∷ []
groups-more all d = map-append (λ (d : Drawn). d.group) all (d ∷ [])

pub All-more : {A : Type 0} (P : A → Type 0) (xs : List A) (x : A) → All P xs → P x → All P (xs ++ x ∷ [])
All-more P xs x every one = All-append P xs (x ∷ []) every (All-cons P x [] one (All-nil P))

-- what is above all of a list is above its last
pub last_below : (r n : ℕ) (xs : List ℕ) → All (λ x. x < r) (xs ++ n ∷ []) → n < r
last_below r n [] h = h 0 0 (omega arith)
last_below r n (x ∷ xs) h = last_below r n xs (λ k d l. h (suc k) d (omega (arith, l)))

pub All-last : {A : Type 0} (P : A → Type 0) (xs : List A) (x : A) → All P (xs ++ x ∷ []) → P x
All-last P [] x h = h 0 x (omega arith)
All-last P (y ∷ xs) x h = All-last P xs x (λ k d l. h (suc k) d (omega (arith, l)))

pub All-front : {A : Type 0} (P : A → Type 0) (xs ys : List A) → All P (xs ++ ys) → All P xs
All-front P [] ys h k d l = absurd (omega (arith, l))
All-front P (x ∷ xs) ys h zero d l = h 0 d (omega arith)
All-front P (x ∷ xs) ys h (suc k) d l = All-front P xs ys (λ i e m. h (suc i) e (omega (arith, m))) k d (omega (arith, l))
