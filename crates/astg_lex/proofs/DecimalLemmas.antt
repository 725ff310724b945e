-- Words of digits and written numbers, each read as the other's number.
use Rattle.std.proofs.Common.{◌≡◌, ℕ, ◌<◌, ◌≤◌, ◌^◌, ◌&&◌, nat_le, true, cond, length, Some, None, ap, ◌∙◌, arith, rules}
use Rattle.std.proofs.lemmas.Bool.{and_from, le-leb}
use Rattle.std.proofs.lemmas.Fmt.{digits_decimal, digits_value-decimal, length-decimal-le, decimal_nonempty}
use Rattle.std.proofs.lemmas.Str.Parse.{IsNumeralModel, numerals_by_fold}
use Rattle.std.specs.List.{list_all}
use Rattle.std.specs.Prelude.{decimal}
use Rattle.stg_net.specs.Names.{is_digit}
use Rattle.astg_lex.specs.Numbers.{value_after, is_number, number}

-- the model of numerals by which std's lemmas speak
pub numerals : IsNumeralModel (λ ds. list_all is_digit ds ≡ true) (value_after 0)
numerals = numerals_by_fold _ (search rules) value_after (search rules)

-- a written number of less than ten digits is a number
pub decimal-is_number : (n : ℕ) → n < 1000000000 → is_number (decimal n) ≡ true
decimal-is_number n h =
    let w = decimal n in
    let fits : n < 2 ^ 64 = omega (arith, h) in
    let at_least = decimal_nonempty n fits in
    let at_most : length w ≤ 9 = length-decimal-le 9 n (omega arith) (omega (arith, h)) fits in
    and_from (nat_le 1 (length w) && nat_le (length w) 9) (list_all is_digit w)
    (and_from (nat_le 1 (length w)) (nat_le (length w) 9) (le-leb 1 (length w) (omega (arith, at_least))) (le-leb (length w) 9 at_most))
    (digits_decimal numerals n fits)

-- a written number is read as itself
pub number-decimal : (n : ℕ) → n < 1000000000 → number (decimal n) ≡ Some n
number-decimal n h =
    ap (λ b. cond b (Some (value_after 0 (decimal n))) None) (decimal-is_number n h) ∙ ap Some (digits_value-decimal numerals n (omega (arith, h)))
