-- What the words of a run ask for. `command_of`, at the end, says it of all words.
use Rattle.std.specs.Prelude.{ℕ, Bool, true, false, not, ◌&&◌, ◌==◌, nat_le, List, [], ◌∷◌, ◌++◌, map, filter, Option, None, Some, option_map, option_and_then, String, if◌then◌else◌, codes}
use Rattle.std.specs.List.{list_all}
use Rattle.std.specs.Str.{bytes_eq}
use Rattle.std.specs.Str.Parse.{digits_value}
use Rattle.std.specs.String.{string_bytes}
use Rattle.std.specs.declared.alloc.Global.{Global}
use Rattle.stg_net.specs.Names.{is_between, is_digit}

-- the bytes of a word
abbrev pub Text : Type 0
Text = List ℕ

-- what a run is asked to do
pub data Command : Type 0 where
  -- to decompose the specification in the file of that name, by that many workers, into the
  -- groups of a partition's file or the plain ones, with logs of the steps or without
  Decompose : (spec : Text) (workers : ℕ) (partition : Option Text) (steps : Bool) → Command
  -- to decompose the pipeline of that many outputs, by that many workers
  Measure : (count workers : ℕ) → Command

-- ---- values

-- whether the word begins with `-`
abbrev pub begins_with_dash : Text → Bool
begins_with_dash [] = false
begins_with_dash (c ∷ cs) = c == 45

-- the name of a file isn't empty and doesn't begin with `-`
abbrev pub is_file_word : Text → Bool
is_file_word [] = false
is_file_word (c ∷ cs) = not (c == 45)

-- whether the word begins with a digit that isn't 0
abbrev pub begins_number : Text → Bool
begins_number [] = false
begins_number (c ∷ cs) = is_between 49 57 c

-- a number has decimal digits alone, and no 0 at its beginning
abbrev pub is_plain_number : Text → Bool
is_plain_number word = begins_number word && list_all is_digit word

-- the word as the name of a file, where it may be one
abbrev pub as_file : Text → Option Text
as_file word = if is_file_word word then Some word else None

-- the number that the word writes, from 1 to the most
abbrev pub number_up_to : ℕ → Text → Option ℕ
number_up_to most word =
    if is_plain_number word && nat_le (digits_value 10 word) most
    then Some (digits_value 10 word) else None

-- ---- what the words after the first give

-- what has a value: the place of a word that is no option's, or an option
pub data Argument : Type 0 where
  Positional : Argument
  Workers : Argument
  Partition : Argument
  Steps : Argument

-- an argument with the value that is given to it
abbrev pub Given : Type 0
Given = Argument × Text

-- what a word is by itself: it gives a value, or asks for one in the next word, or is neither
pub data WordKind : Type 0 where
  Gives : Argument → Text → WordKind
  Asks : Argument → WordKind
  Unknown : WordKind

-- what follows the beginning in a word that begins so
abbrev pub after_prefix : Text → Text → Option Text
after_prefix [] word = Some word
after_prefix (b ∷ beginning) [] = None
after_prefix (b ∷ beginning) (c ∷ word) = if b == c then after_prefix beginning word else None

-- the word gives the value, where there is one
abbrev pub or_gives : Argument → Option Text → WordKind → WordKind
or_gives argument (Some value) other = Gives argument value
or_gives argument None other = other

-- what each word is; an option's value is the next word, or follows `=` in the same word
abbrev pub word_kind : Text → WordKind
word_kind word =
    if bytes_eq word (codes "--steps") then Gives Steps []
    else (if bytes_eq word (codes "--workers") then Asks Workers
    else (if bytes_eq word (codes "--partition") then Asks Partition
    else (or_gives Workers (after_prefix (codes "--workers=") word)
    (or_gives Partition (after_prefix (codes "--partition=") word)
    (if begins_with_dash word then Unknown else Gives Positional word)))))

-- what a word gives, with what those after it give
abbrev pub at_word : WordKind → (Option Argument → Option (List Given)) → Option (List Given)
at_word (Gives argument value) rest = option_map (λ gs. (argument, value) ∷ gs) (rest None)
at_word (Asks argument) rest = rest (Some argument)
at_word Unknown rest = None

-- what the words give, in their order; where an argument has asked for it, the first word is its
-- value
abbrev pub given_in : List Text → Option Argument → Option (List Given)
given_in [] None = Some []
given_in [] (Some argument) = None
given_in (word ∷ words) (Some argument) =
    option_map (λ gs. (argument, word) ∷ gs) (given_in words None)
given_in (word ∷ words) None = at_word (word_kind word) (given_in words)

-- whether the arguments are the same
abbrev pub is_same : Argument → Argument → Bool
is_same Positional Positional = true
is_same Workers Workers = true
is_same Partition Partition = true
is_same Steps Steps = true
is_same _ _ = false

-- the values that are given to the argument
abbrev pub values_of : Argument → List Given → List Text
values_of argument gs = map (λ (g : Given). g.1) (filter (λ (g : Given). is_same argument g.0) gs)

-- ---- what the values of an argument come to; none has two

-- the name of the specification's file: just one
abbrev pub spec_from : List Text → Option Text
spec_from [] = None
spec_from (word ∷ []) = as_file word
spec_from (word ∷ other ∷ more) = None

-- how many outputs the pipeline has: just one number
abbrev pub count_from : List Text → Option ℕ
count_from [] = None
count_from (word ∷ []) = number_up_to 248 word
count_from (word ∷ other ∷ more) = None

-- how many workers share the groups: 1 where it isn't given
abbrev pub workers_from : List Text → Option ℕ
workers_from [] = Some 1
workers_from (word ∷ []) = number_up_to 64 word
workers_from (word ∷ other ∷ more) = None

-- the name of the partition's file, where it is given
abbrev pub partition_from : List Text → Option (Option Text)
partition_from [] = Some None
partition_from (word ∷ []) = option_map Some (as_file word)
partition_from (word ∷ other ∷ more) = None

-- whether the steps are logged
abbrev pub steps_from : List Text → Option Bool
steps_from [] = Some false
steps_from (word ∷ []) = Some true
steps_from (word ∷ other ∷ more) = None

-- whether there is no value
abbrev pub nothing_given : List Text → Bool
nothing_given [] = true
nothing_given (word ∷ words) = false

-- ---- the commands

-- goes on with the value, where there is one
abbrev pub if_some : {A B : Type 0} → Option A → (A → Option B) → Option B
if_some o rest = option_and_then rest o

-- `decompose SPEC [--workers N] [--partition FILE] [--steps]`
abbrev pub decompose_of : List Given → Option Command
decompose_of gs =
    if_some (spec_from (values_of Positional gs)) (λ spec.
    if_some (workers_from (values_of Workers gs)) (λ workers.
    if_some (partition_from (values_of Partition gs)) (λ partition.
    if_some (steps_from (values_of Steps gs)) (λ steps.
    Some (Decompose spec workers partition steps)))))

-- `measure N [--workers N]`
abbrev pub measure_of : List Given → Option Command
measure_of gs =
    if nothing_given (values_of Partition gs) && nothing_given (values_of Steps gs) then
    if_some (count_from (values_of Positional gs)) (λ count.
    if_some (workers_from (values_of Workers gs)) (λ workers.
    Some (Measure count workers)))
    else None

-- the first word is the command, and options and other words come after it in any order
abbrev pub asked_in : List Text → Option Command
asked_in [] = None
asked_in (first ∷ words) =
    if bytes_eq first (codes "decompose") then if_some (given_in words None) decompose_of
    else (if bytes_eq first (codes "measure") then if_some (given_in words None) measure_of
    else None)

-- what the words ask for; None where they aren't of the form
unfoldable pub command_of : List (String Global) → Option Command
command_of words = asked_in (map (λ (w : String Global). string_bytes w) words)

-- what is printed where they aren't
abbrev pub usage : Text
usage =
    codes "usage: desij decompose SPEC [--workers N] [--partition FILE] [--steps]\n"
    ++ codes "       desij measure N [--workers N]\n"
    ++ codes "       desij serve ADDR COUNT [--database FILE]\n"
