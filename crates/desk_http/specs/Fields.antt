-- How long a request's body is, by its fields.
use Rattle.std.specs.Prelude.{ℕ, ◌+◌, ◌-◌, ◌*◌, Bool, ◌&&◌, List, [], ◌∷◌, length, map, Option, None, Some, codes, if◌then◌else◌, nat_le}
use Rattle.std.specs.List.{list_any, list_all}
use Rattle.std.specs.Option.{option_and_then}
use Rattle.std.specs.Str.{bytes_eq}
use Rattle.stg_net.specs.Names.{is_digit}

-- a field's name and its value
abbrev pub NamedValue : Type 0
NamedValue = List ℕ × List ℕ

-- a capital letter as its small one
abbrev pub lower : ℕ → ℕ
lower c = if nat_le 65 c && nat_le c 90 then c + 32 else c

-- whether a field has that name, whatever the case of its letters
abbrev pub is_field : List ℕ → NamedValue → Bool
is_field name f = bytes_eq (map lower f.0) name

-- 1 to 9 digits
abbrev pub is_length : List ℕ → Bool
is_length text = nat_le 1 (length text) && nat_le (length text) 9 && list_all is_digit text

-- the number that digits give behind those that gave n
abbrev pub number_from : ℕ → List ℕ → ℕ
number_from n [] = n
number_from n (c ∷ cs) = number_from (n * 10 + (c - 48)) cs

-- the number that 1 to 9 digits give
abbrev pub read_length : List ℕ → Option ℕ
read_length text = if is_length text then Some (number_from 0 text) else None

-- what the fields say of a length, where those before said this: no second one may come
abbrev pub length_by : List NamedValue → Option ℕ → Option (Option ℕ)
length_by [] found = Some found
length_by (f ∷ fs) (Some n) =
    if is_field (codes "content-length") f then None else length_by fs (Some n)
length_by (f ∷ fs) None =
    if is_field (codes "content-length") f
    then option_and_then (λ n. length_by fs (Some n)) (read_length f.1) else length_by fs None

-- a Transfer-Encoding is given
abbrev pub is_coded : List NamedValue → Bool
is_coded fields = list_any (is_field (codes "transfer-encoding")) fields

-- the length of the body: `None` where the fields are bad, `Some None` where they give none
abbrev pub body_length : List NamedValue → Option (Option ℕ)
body_length fields = if is_coded fields then None else length_by fields None
