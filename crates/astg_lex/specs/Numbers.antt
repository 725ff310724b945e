-- The number for which a word of digits stands.
use Rattle.std.specs.Prelude.{ℕ, Bool, ◌&&◌, ◌+◌, ◌*◌, ◌-◌, nat_le, List, [], ◌∷◌, length, Option, None, Some, if◌then◌else◌}
use Rattle.std.specs.List.{list_all}
use Rattle.stg_net.specs.Names.{is_digit}

-- the decimal number of digits after others whose number is n; 48 is 0
abbrev pub value_after : ℕ → List ℕ → ℕ
value_after n [] = n
value_after n (c ∷ cs) = value_after (n * 10 + (c - 48)) cs

-- 1 to 9 digits
abbrev pub is_number : List ℕ → Bool
is_number w = nat_le 1 (length w) && nat_le (length w) 9 && list_all is_digit w

-- the number of a word of 1 to 9 digits, none of another word
abbrev pub number : List ℕ → Option ℕ
number w = if is_number w then Some (value_after 0 w) else None
