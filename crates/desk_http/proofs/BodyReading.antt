-- Bodies that are read in pieces.
use Rattle.std.proofs.Common.{◌≡◌, ℕ, ◌+◌, ◌-◌, ◌≤◌, ◌<◌, true, false, List, [], ◌++◌, length, take, drop, Option, Some, IfSome, refl, sym, subst, ap, ◌∙◌, append_assoc, arith}
use Rattle.std.proofs.lemmas.List.{take_all, take-append-le, append-nil, length-append}
use Rattle.std.specs.Io.KnownBytes.{IsAtEnd}
use Rattle.desk_http.specs.inner.Wire.{HasRead, Gathers, ReadsOn, IsBody}
use Rattle.desk_http.proofs.ReadLemmas.{rest_of, HasRead-nil, HasRead-append}

pub Gathers-nil : (text : List ℕ) (left : Option (List ℕ)) → Gathers text text left left
Gathers-nil text left = record { more = []; text = sym (append-nil text); read = HasRead-nil left }

pub Gathers-append : (a b c : List ℕ) (old mid new : Option (List ℕ)) → Gathers a b old mid → Gathers b c mid new → Gathers a c old new
Gathers-append a b c old mid new p q = record {
  more = p.more ++ q.more;
  text = q.text ∙ ap (λ (t : List ℕ). t ++ q.more) p.text ∙ append_assoc a p.more q.more;
  read = HasRead-append p.more q.more old mid new p.read q.read;
}

-- what is there and what is left make what was there and what was left
same_whole : (a b input : List ℕ) (old new : Option (List ℕ)) → Gathers a b old new → old ≡ Some input → (rest : List ℕ) × (new ≡ Some rest) × (a ++ input ≡ b ++ rest)
same_whole a b input old new p told =
    let r = rest_of p.more input old new p.read told in
    (r.0, r.1, ap (λ (t : List ℕ). a ++ t) r.2 ∙ sym (append_assoc a p.more r.0) ∙ ap (λ (t : List ℕ). t ++ r.0) (sym p.text))

pub all_read : (count : ℕ) (a b : List ℕ) (old new : Option (List ℕ)) → length b ≡ count → Gathers a b old new → IsBody true count a b old
all_read count a b old new full p input told =
    let r = same_whole a b input old new p told in (
      omega (arith, full, ap length r.2, length-append b r.0),
      sym (ap (take count) r.2 ∙ take-append-le count b r.0 (omega (arith, full)) ∙ take_all count b (omega (arith, full))),
    )

pub ended : (count : ℕ) (a b : List ℕ) (old new : Option (List ℕ)) → length b < count → Gathers a b old new → IsAtEnd new → IsBody false count a b old
ended count a b old new short p end input told =
    let r = same_whole a b input old new p told in
    let empty : r.0 ≡ [] = subst (λ (o : Option (List ℕ)). IsAtEnd o) r.1 end in
    omega (arith, short, ap length (r.2 ∙ ap (λ (t : List ℕ). b ++ t) empty ∙ append-nil b))
