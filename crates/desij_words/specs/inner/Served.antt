-- Whether the words after `serve` are of the form.
use Rattle.std.specs.Prelude.{Bool, false, ◌&&◌, ◌||◌, List, [], ◌∷◌, is_some, codes}
use Rattle.std.specs.Option.{option_map_or}
use Rattle.std.specs.Str.{bytes_eq}
use Rattle.desij_words.specs.Words.{Text, after_prefix, is_file_word, number_up_to}

-- an address and a count
abbrev pub are_values : Text → Text → Bool
are_values addr count = is_file_word addr && is_some (number_up_to 1000000 count)

-- the option with its value
abbrev pub is_joined : Text → Bool
is_joined word = option_map_or is_file_word (after_prefix (codes "--database=") word) false

-- the option, and its value in the next word
abbrev pub is_option : Text → Text → Bool
is_option word file = bytes_eq word (codes "--database") && is_file_word file

abbrev pub are_served : List Text → Bool
are_served (a ∷ b ∷ []) = are_values a b
are_served (a ∷ b ∷ c ∷ []) =
    (is_joined a && are_values b c)
    || (is_joined b && are_values a c)
    || (is_joined c && are_values a b)
are_served (a ∷ b ∷ c ∷ d ∷ []) =
    (is_option a b && are_values c d)
    || (is_option b c && are_values a d)
    || (is_option c d && are_values a b)
are_served _ = false

-- whether all words are of the form
abbrev pub are_serving : List Text → Bool
are_serving [] = false
are_serving (first ∷ words) = bytes_eq first (codes "serve") && are_served words
