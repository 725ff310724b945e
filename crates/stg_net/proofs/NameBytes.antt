-- The bytes of names, and bytes that are told apart by a test.
use Rattle.std.proofs.Common.{◌≡◌, ℕ, ◌==◌, ◌&&◌, ◌||◌, nat_le, Bool, true, false, List, [], ◌∷◌, length, refl, sym, ap, ◌∙◌, inl, inr}
use Rattle.std.proofs.lemmas.Bool.{and_parts, and_from, or_left, true≢false, cases_eq, ne_eqb}
use Rattle.std.specs.List.{list_all}
use Rattle.stg_net.specs.Names.{begins_name, is_in_name, is_name}

-- a test that passes here and not there tells the two apart
pub not_at : (P : ℕ → Bool) (v c : ℕ) → P v ≡ false → P c ≡ true → (c == v) ≡ false
not_at P v c h k = elim (cases_eq c v) [
  | inl e ↦ absurd (true≢false (sym k ∙ ap P e ∙ h))
  | inr n ↦ ne_eqb c v n
]

-- a byte with which a name begins may stand in it
pub begins-in_name : (c : ℕ) → begins_name c ≡ true → is_in_name c ≡ true
begins-in_name c h = or_left (begins_name c || c == 46 || c == 91) (c == 93) (or_left (begins_name c || c == 46) (c == 91) (or_left (begins_name c) (c == 46) h))

-- a name has bytes of names
pub name-bytes : (w : List ℕ) → is_name w ≡ true → list_all is_in_name w ≡ true
name-bytes [] h = refl
name-bytes (c ∷ cs) h =
    let p = and_parts (begins_name c && nat_le (length cs) 99) (list_all is_in_name cs) h in
    let q = and_parts (begins_name c) (nat_le (length cs) 99) p.0 in
    and_from (is_in_name c) (list_all is_in_name cs) (begins-in_name c q.0) p.1
