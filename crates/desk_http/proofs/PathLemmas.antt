-- Pieces of targets.
use Rattle.std.proofs.Common.{◌≡◌, ℕ, suc, ◌-◌, ◌<◌, Bool, true, false, cond, List, [], ◌∷◌, ◌++◌, length, take, refl, ap, ◌∙◌, arith, ne_eqb, slice_index, ◌==◌}
use Rattle.std.proofs.Math.Seq.{take-append_seam}
use Rattle.std.proofs.lemmas.List.{length-append}
use Rattle.desk_http.specs.Routes.{from_slash, is_plain}
use Rattle.desk_http.specs.Paths.{up_to_slash}

-- bytes are plain
pub plain_bytes : (bs : List ℕ) → ((k : ℕ) → slice_index bs k < 256) → is_plain bs ≡ true
plain_bytes [] small = refl
plain_bytes (b ∷ bs) small =
    rw (ne_eqb b 256 (λ e. omega (arith, e, small 0)), ne_eqb b 257 (λ e. omega (arith, e, small 0))) (plain_bytes bs (λ k. small (suc k)))

-- a text is what stands before its first slash and what stands from it on
whole : (t : List ℕ) → t ≡ up_to_slash t ++ from_slash t
whole [] = refl
whole (c ∷ cs) = by (whole cs) (c == 47)
  where
    by : cs ≡ up_to_slash cs ++ from_slash cs → (b : Bool) → c ∷ cs ≡ cond b [] (c ∷ up_to_slash cs) ++ cond b (c ∷ cs) (from_slash cs)
    by rest true = refl
    by rest false = ap (λ (t : List ℕ). c ∷ t) rest

pub piece_taken : (t : List ℕ) → take (length t - length (from_slash t)) t ≡ up_to_slash t
piece_taken t =
    let n : length t - length (from_slash t) ≡ length (up_to_slash t) = omega (arith, ap length (whole t) ∙ length-append (up_to_slash t) (from_slash t)) in
    ap (λ (k : ℕ). take k t) n ∙ ap (take (length (up_to_slash t))) (whole t) ∙ take-append_seam (up_to_slash t) (from_slash t)
