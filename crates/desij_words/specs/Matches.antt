-- What `clap` reads of words of the form.
use Rattle.std.specs.Prelude.{◌≡◌, Bool, true, false, Some, codes, ⊤}
use Rattle.std.specs.Option.{option_to_list}
use Rattle.clap.specs.Words.{first_value, one_text}
use Rattle.clap.specs.declared.parser.matches.Found.{Found}
use Rattle.desij_words.specs.Words.{Text, Command, Decompose, Measure, count_from, workers_from}

abbrev pub IsDecompose : Command → Type 0
IsDecompose (Decompose spec workers partition steps) = ⊤
IsDecompose (Measure count workers) = ⊥

abbrev pub IsMeasure : Command → Type 0
IsMeasure (Decompose spec workers partition steps) = ⊥
IsMeasure (Measure count workers) = ⊤

abbrev pub flag_text : Bool → Text
flag_text true = codes "true"
flag_text false = codes "false"

-- the values that were found are those of the command
abbrev pub HasValues : Found → Command → Type 0
HasValues found (Decompose spec workers partition steps) =
    (first_value found (codes "spec") ≡ Some spec)
    × (workers_from (option_to_list (first_value found (codes "workers"))) ≡ Some workers)
    × (first_value found (codes "partition") ≡ partition)
    × (one_text found (codes "steps") ≡ Some (flag_text steps))
HasValues found (Measure count workers) =
    (count_from (option_to_list (first_value found (codes "count"))) ≡ Some count)
    × (workers_from (option_to_list (first_value found (codes "workers"))) ≡ Some workers)
