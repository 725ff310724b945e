-- What is found in a list, and the numbers in order of first appearance.
use Rattle.std.proofs.Common.{◌≡◌, ◌+◌, ◌<◌, ℕ, suc, List, [], ◌∷◌, ◌++◌, Bool, true, false, cond, not, ◌&&◌, ◌||◌, inl, inr, length, nat_eq, refl, sym, ap, ◌∙◌, arith, Some, None, append_assoc, append-nil, position, eq-eqb}
use Rattle.std.proofs.lemmas.List.Folds.{list_any-append}
use Rattle.std.proofs.lemmas.Bool.{cases_Bool, lt-ltb, false≢true, or_left, or_parts, and_from, le-ltb}
use Rattle.std.specs.List.{list_any, position_or_len}
use Rattle.stg_net.specs.declared.trans.TransName.{TransName}
use Rattle.astg_read.specs.Lists.{with_new, firsts}
use Rattle.stg_net.specs.Net.{is_edge}
use Rattle.stg_net.proofs.Edges.{is_edge-itself}
use Rattle.astg_read.specs.Nodes.{same_trans}

-- one that is there is found before the end
pub found_within : {X : Type 0} (f : X → Bool) (xs : List X) → list_any f xs ≡ true → position_or_len f xs < length xs
found_within f [] h = absurd (false≢true h)
found_within f (x ∷ xs) h = elim (cases_Bool (f x)) [
  | inl k ↦ omega (arith, ap (λ b. cond (not b) (1 + position_or_len f xs) 0) k)
  | inr k ↦ omega (arith, ap (λ b. cond (not b) (1 + position_or_len f xs) 0) k, found_within f xs (sym (ap (λ b. b || list_any f xs) k) ∙ h))
]

pub position_there : {X : Type 0} (f : X → Bool) (xs : List X) → list_any f xs ≡ true → position f xs ≡ Some (position_or_len f xs)
position_there f xs h = ap (λ b. cond b (Some (position_or_len f xs)) None) (lt-ltb (position_or_len f xs) (length xs) (found_within f xs h))

-- one that isn't there
not_found : {X : Type 0} (f : X → Bool) (xs : List X) → list_any f xs ≡ false → position_or_len f xs ≡ length xs
not_found f [] h = refl
not_found f (x ∷ xs) h = let k = (or_parts (f x) (list_any f xs) h) in
    ap (λ b. cond (not b) (1 + position_or_len f xs) 0) k.0 ∙ ap (λ n. 1 + n) (not_found f xs k.1) ∙ (let e : 1 + length xs ≡ suc (length xs) = omega arith in e)

pub position-none : {X : Type 0} (f : X → Bool) (xs : List X) → list_any f xs ≡ false → position f xs ≡ None
position-none f xs h = ap (λ b. cond b (Some (position_or_len f xs)) None) (le-ltb (position_or_len f xs) (length xs) (omega (arith, not_found f xs h)))

some_none : (n : ℕ) → Some n ≡ None → ⊥
some_none n e = cc

pub any-found : {X : Type 0} (f : X → Bool) (xs : List X) (n : ℕ) → position f xs ≡ Some n → list_any f xs ≡ true
any-found f xs n h = elim (cases_Bool (list_any f xs)) [
  | inl k ↦ k
  | inr k ↦ absurd (some_none n (sym h ∙ position-none f xs k))
]

pub any-missing : {X : Type 0} (f : X → Bool) (xs : List X) → position f xs ≡ None → list_any f xs ≡ false
any-missing f xs h = elim (cases_Bool (list_any f xs)) [
  | inl k ↦ absurd (some_none (position_or_len f xs) (sym (position_there f xs k) ∙ h))
  | inr k ↦ k
]

pub same_trans-refl : (t : TransName) → same_trans t t ≡ true
same_trans-refl t = and_from (nat_eq t.signal t.signal) (is_edge t.edge t.edge && nat_eq t.index t.index)
    (eq-eqb t.signal t.signal refl)
    (and_from (is_edge t.edge t.edge) (nat_eq t.index t.index) (is_edge-itself t.edge) (eq-eqb t.index t.index refl))

-- a number that was found is there
pub position-within : {X : Type 0} (f : X → Bool) (xs : List X) (n : ℕ) → position f xs ≡ Some n → n < length xs
position-within f xs n h =
    let there = any-found f xs n h in
    let same : position_or_len f xs ≡ n = some_same (position_or_len f xs) n (sym (position_there f xs there) ∙ h) in
    omega (arith, found_within f xs there, same)
  where
    some_same : (a b : ℕ) → Some a ≡ Some b → a ≡ b
    some_same a b e = cc

-- what was added comes last
with_new-more : {X : Type 0} (same : X → X → Bool) (seen : List X) (x : X) → with_new same seen x ≡ seen ++ cond (list_any (same x) seen) [] (x ∷ [])
with_new-more same seen x = elim (cases_Bool (list_any (same x) seen)) [
  | inl k ↦ ap (λ b. cond b seen (seen ++ x ∷ [])) k ∙ sym (append-nil seen) ∙ sym (ap (λ b. seen ++ cond b [] (x ∷ [])) k)
  | inr k ↦ ap (λ b. cond b seen (seen ++ x ∷ [])) k ∙ sym (ap (λ b. seen ++ cond b [] (x ∷ [])) k)
]

abbrev newer : {X : Type 0} → (X → X → Bool) → List X → List X → List X
newer same seen [] = []
newer same seen (x ∷ xs) = cond (list_any (same x) seen) [] (x ∷ []) ++ newer same (with_new same seen x) xs

pub firsts-more : {X : Type 0} (same : X → X → Bool) (seen xs : List X) → firsts same seen xs ≡ seen ++ newer same seen xs
firsts-more same seen [] = sym (append-nil seen)
firsts-more same seen (x ∷ xs) = firsts-more same (with_new same seen x) xs
    ∙ ap (λ ys. ys ++ newer same (with_new same seen x) xs) (with_new-more same seen x)
    ∙ append_assoc seen (cond (list_any (same x) seen) [] (x ∷ [])) (newer same (with_new same seen x) xs)

-- what is there stays there
pub any-firsts : {X : Type 0} (same : X → X → Bool) (f : X → Bool) (seen xs : List X) → list_any f seen ≡ true → list_any f (firsts same seen xs) ≡ true
any-firsts same f seen xs h = ap (list_any f) (firsts-more same seen xs) ∙ list_any-append f seen (newer same seen xs) ∙ or_left (list_any f seen) (list_any f (newer same seen xs)) h
