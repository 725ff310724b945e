-- What the code's commands stand for.
use Rattle.std.specs.Prelude.{◌≤◌}
use Rattle.std.specs.Option.{option_copied}
use Rattle.desij_words.specs.declared.words.Command.{Command as Told}
use Rattle.desij_words.specs.declared.words.Command.TheVariants as told
use Rattle.desij_words.specs.Words.{Command, Decompose, Measure}

-- the command, with the texts that it borrows
abbrev pub command_told : Told → Command
command_told (told.Decompose spec workers partition steps) =
    Decompose spec.now workers (option_copied partition) steps
command_told (told.Measure count workers) = Measure count workers

-- the command's numbers are within their bounds
abbrev pub IsInBounds : Command → Type 0
IsInBounds (Decompose spec workers partition steps) = (1 ≤ workers) × (workers ≤ 64)
IsInBounds (Measure count workers) = ((1 ≤ count) × (count ≤ 248)) × (1 ≤ workers) × (workers ≤ 64)
