-- How the words of a command are passed over: which arguments have their value so far.
use Rattle.std.specs.Prelude.{Bool, true, false, not, ◌&&◌, ◌||◌, List, [], ◌∷◌, Option, None, Some, is_some, option_map, if◌then◌else◌, codes}
use Rattle.std.specs.Str.{bytes_eq}
use Rattle.std.specs.Option.{option_map_or}
use Rattle.desij_words.specs.declared.words.form.Action.{Action}
use Rattle.desij_words.specs.declared.words.form.Action.TheVariants as action
use Rattle.desij_words.specs.declared.words.form.Met.{Met}
use Rattle.desij_words.specs.declared.words.form.Pass.{Pass}
use Rattle.desij_words.specs.inner.Told.{argument_told}
use Rattle.desij_words.specs.Words.{Text, Argument, Positional, Workers, Partition, Steps, WordKind, Gives, Asks, Unknown, is_file_word, number_up_to, word_kind}

-- whether a value of the argument may stand in a word of the command
abbrev pub allows : Action → Argument → Text → Bool
allows action.Decompose Positional value = is_file_word value
allows action.Decompose Workers value = is_some (number_up_to 64 value)
allows action.Decompose Partition value = is_file_word value
allows action.Decompose Steps value = true
allows action.Measure Positional value = is_some (number_up_to 248 value)
allows action.Measure Workers value = is_some (number_up_to 64 value)
allows action.Measure Partition value = false
allows action.Measure Steps value = false

-- whether the argument has its value
abbrev pub has : Met → Argument → Bool
has met Positional = met.positional
has met Workers = met.workers
has met Partition = met.partition
has met Steps = met.steps

-- no argument has its value
abbrev pub nothing_met : Met
nothing_met = record { positional = false; workers = false; partition = false; steps = false }

-- the argument has its value too
abbrev pub with_argument : Met → Argument → Met
with_argument met Positional = record met { positional = true }
with_argument met Workers = record met { workers = true }
with_argument met Partition = record met { partition = true }
with_argument met Steps = record met { steps = true }

-- one more value, where the argument has none
abbrev pub met_with : Action → Met → Argument → Text → Option Met
met_with what met argument value =
    if has met argument || not (allows what argument value) then None
    else Some (with_argument met argument)

-- what has its value, and what asked for the next word
abbrev pub PassPoint : Type 0
PassPoint = Met × Option Argument

abbrev pub point_of : Pass → PassPoint
point_of pass = (pass.met, option_map argument_told pass.asked)

-- the place after a word that is so
abbrev pub point_at : Action → Met → WordKind → Option PassPoint
point_at what met (Gives argument value) =
    option_map (λ (m : Met). (m, None)) (met_with what met argument value)
point_at what met (Asks argument) = Some (met, Some argument)
point_at what met Unknown = None

-- the place after one more word, where it may follow
abbrev pub point_after : Action → PassPoint → Text → Option PassPoint
point_after what place word =
    point_at what place.0
    (option_map_or (λ (argument : Argument). Gives argument word) place.1 (word_kind word))

-- whether the words may end there
abbrev pub is_end : PassPoint → Bool
is_end place = place.0.positional && not (is_some place.1)

abbrev pub follow : Option PassPoint → (PassPoint → Bool) → Bool
follow None rest = false
follow (Some place) rest = rest place

-- whether the words may follow there, up to the end
abbrev pub may_follow : Action → List Text → PassPoint → Bool
may_follow what [] place = is_end place
may_follow what (word ∷ words) place =
    follow (point_after what place word) (may_follow what words)

-- whether the words after the first are of the command's form
abbrev pub is_of_form : Action → List Text → Bool
is_of_form what words = may_follow what words (nothing_met, None)

abbrev pub action_where : Bool → Action → Option Action
action_where is_of_form what = if is_of_form then Some what else None

-- the command of the words, where those after the first are of its form
abbrev pub action_in : List Text → Option Action
action_in [] = None
action_in (first ∷ words) =
    if bytes_eq first (codes "decompose")
    then action_where (is_of_form action.Decompose words) action.Decompose
    else (if bytes_eq first (codes "measure")
    then action_where (is_of_form action.Measure words) action.Measure
    else None)
