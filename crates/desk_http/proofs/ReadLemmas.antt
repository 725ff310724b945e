-- What reads leave, one after the other.
use Rattle.std.proofs.Common.{◌≡◌, ℕ, zero, suc, ◌∷◌, unwrap_or, ◌+◌, ◌-◌, ◌≤◌, List, [], ◌++◌, length, take, Option, None, Some, IfSome, refl, sym, subst, ap, ◌∙◌, append_assoc, arith}
use Rattle.std.specs.Option.{option_map}
use Rattle.std.proofs.Math.Seq.{take-append-add}
use Rattle.std.proofs.lemmas.List.{take_all, take-append-le, append-nil}
use Rattle.httparse.specs.Grammar.{ReadsRequest, HasNoRequest}
use Rattle.httparse.specs.Spans.{RequestOverflows}
use Rattle.std.specs.Io.KnownBytes.{IsAtEnd}
use Rattle.desk_http.specs.inner.Wire.{HasRead}
use Rattle.desk_http.specs.Requests.{HasNoHead}

-- nothing was read
pub HasRead-nil : (left : Option (List ℕ)) → HasRead [] left left
HasRead-nil None = refl
HasRead-nil (Some bs) = refl

-- two reads are one
pub HasRead-append : (a b : List ℕ) (old mid new : Option (List ℕ)) → HasRead a old mid → HasRead b mid new → HasRead (a ++ b) old new
HasRead-append a b old mid None p q = p ∙ ap (option_map (λ (rest : List ℕ). a ++ rest)) q
HasRead-append a b old mid (Some bs) p q = p ∙ ap (option_map (λ (rest : List ℕ). a ++ rest)) q ∙ ap Some (sym (append_assoc a b bs))

-- what was left is what was read and what is left
pub rest_of : (a input : List ℕ) (old new : Option (List ℕ)) → HasRead a old new → old ≡ Some input → (rest : List ℕ) × (new ≡ Some rest) × (input ≡ a ++ rest)
rest_of a input old None p told = absurd (subst (λ (o : Option (List ℕ)). IfSome o (λ x. ⊥)) (sym p ∙ told) tt)
rest_of a input old (Some rest) p told = (rest, refl, ap (λ (o : Option (List ℕ)). unwrap_or o []) (sym told ∙ p))

pub short_take : (n : ℕ) (xs : List ℕ) → length (take n xs) ≤ n
short_take zero xs = omega arith
short_take (suc n) [] = omega arith
short_take (suc n) (x ∷ xs) = omega (arith, short_take n xs)

-- the first bytes of what was read and what is left
pub front : (a rest : List ℕ) (n : ℕ) → length a ≤ n → take n (a ++ rest) ≡ a ++ take (n - length a) rest
front a rest n short =
    let sum : n ≡ length a + (n - length a) = omega (arith, short) in
    ap (λ (k : ℕ). take k (a ++ rest)) sum ∙ take-append-add a rest (n - length a)

-- bytes that never begin with a head
pub never_head : (a : List ℕ) (old new : Option (List ℕ)) → length a ≤ 8192 → HasRead a old new → RequestOverflows 64 a → (input : List ℕ) → old ≡ Some input → HasNoHead input
never_head a old new short p over input told head after reads few =
    let r = rest_of a input old new p told in
    let same : take 8192 input ≡ a ++ take (8192 - length a) r.0 = ap (take 8192) r.2 ∙ front a r.0 8192 short in
    omega (arith, few, over (take (8192 - length a) r.0) head after (subst (λ (bs : List ℕ). ReadsRequest bs head after) same reads))

-- all of the first bytes are read, and have no head
pub full_head : (a : List ℕ) (old new : Option (List ℕ)) → length a ≡ 8192 → HasRead a old new → HasNoRequest a → (input : List ℕ) → old ≡ Some input → HasNoHead input
full_head a old new full p none input told head after reads few =
    let r = rest_of a input old new p told in
    let same : take 8192 input ≡ a = ap (take 8192) r.2 ∙ take-append-le 8192 a r.0 (omega (arith, full)) ∙ take_all 8192 a (omega (arith, full)) in
    none head after (subst (λ (bs : List ℕ). ReadsRequest bs head after) same reads)

-- the end is reached, and there is no head
pub ended_head : (a : List ℕ) (old new : Option (List ℕ)) → length a ≤ 8192 → HasRead a old new → IsAtEnd new → HasNoRequest a → (input : List ℕ) → old ≡ Some input → HasNoHead input
ended_head a old new short p end none input told head after reads few =
    let r = rest_of a input old new p told in
    let empty : r.0 ≡ [] = subst (λ (o : Option (List ℕ)). IsAtEnd o) r.1 end in
    let whole : input ≡ a = r.2 ∙ ap (λ (t : List ℕ). a ++ t) empty ∙ append-nil a in
    let same : take 8192 input ≡ a = ap (take 8192) whole ∙ take_all 8192 a short in
    none head after (subst (λ (bs : List ℕ). ReadsRequest bs head after) same reads)
