-- What the words of a run that serves ask for. `serving_of`, at the end, says it of all words.
use Rattle.std.specs.Prelude.{◌≡◌, ℕ, ◌≤◌, List, [], ◌∷◌, map, Option, None, Some, String, if◌then◌else◌, codes}
use Rattle.std.specs.Option.{option_copied, option_or, option_to_list}
use Rattle.std.specs.Str.{bytes_eq}
use Rattle.std.specs.String.{string_bytes}
use Rattle.std.specs.declared.alloc.Global.{Global}
use Rattle.clap.specs.Words.{first_value}
use Rattle.clap.specs.declared.parser.matches.Found.{Found}
use Rattle.desij_words.specs.declared.words.serving.Serving.{Serving as Told}
use Rattle.desij_words.specs.Words.{Text, after_prefix, as_file, number_up_to, if_some}

-- to serve so many connections at an address, with the projects of a database's file or of none
pub record Serving : Type 0 where
  pub addr : Text
  pub count : ℕ
  pub database : Option Text

-- the values, where the address and the file may be such and the count is from 1 to 1000000
abbrev pub serving_from : Text → Text → Option Text → Option Serving
serving_from addr count database =
    if_some (as_file addr) (λ a.
    if_some (number_up_to 1000000 count) (λ n.
    Some (record { addr = a; count = n; database = database })))

-- the same with the file of a database
abbrev pub serving_with : Text → Text → Text → Option Serving
serving_with file addr count =
    if_some (as_file file) (λ f. serving_from addr count (Some f))

-- where a word is the option with its value
abbrev pub with_joined : Text → Text → Text → Option Serving
with_joined word addr count =
    if_some (after_prefix (codes "--database=") word) (λ file. serving_with file addr count)

-- where a word is the option, and the next one its value
abbrev pub with_next : Text → Text → Text → Text → Option Serving
with_next word file addr count =
    if bytes_eq word (codes "--database") then serving_with file addr count else None

-- the address comes before the count, and the option before, between or after them
abbrev pub serving_after : List Text → Option Serving
serving_after (a ∷ b ∷ []) = serving_from a b None
serving_after (a ∷ b ∷ c ∷ []) =
    option_or (with_joined a b c) (option_or (with_joined b a c) (with_joined c a b))
serving_after (a ∷ b ∷ c ∷ d ∷ []) =
    option_or (with_next a b c d) (option_or (with_next b c a d) (with_next c d a b))
serving_after _ = None

-- `serve ADDR COUNT [--database FILE]`
abbrev pub serving_in : List Text → Option Serving
serving_in [] = None
serving_in (first ∷ words) = if bytes_eq first (codes "serve") then serving_after words else None

-- what the words ask for; None where they aren't of the form
unfoldable pub serving_of : List (String Global) → Option Serving
serving_of words = serving_in (map (λ (w : String Global). string_bytes w) words)

-- the code's value, with the texts that it borrows
abbrev pub serving_told : Told → Serving
serving_told s = record { addr = s.addr.now; count = s.count; database = option_copied s.database }

-- what `clap` found are these values
pub record FindsServing (found : Found) (s : Serving) : Type 0 where
  pub addr : first_value found (codes "addr") ≡ Some s.addr
  pub count : if_some (first_value found (codes "count")) (number_up_to 1000000) ≡ Some s.count
  pub database : first_value found (codes "database") ≡ s.database
