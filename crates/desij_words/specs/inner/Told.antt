-- What the code's arguments and words stand for.
use Rattle.desij_words.specs.declared.words.word.Argument.{Argument as ArgumentTold}
use Rattle.desij_words.specs.declared.words.word.Argument.TheVariants as argument
use Rattle.desij_words.specs.declared.words.word.WordKind.{WordKind as WordKindTold}
use Rattle.desij_words.specs.declared.words.word.WordKind.TheVariants as word
use Rattle.desij_words.specs.Words.{Argument, Positional, Workers, Partition, Steps, WordKind, Gives, Asks, Unknown}

abbrev pub argument_told : ArgumentTold → Argument
argument_told argument.Positional = Positional
argument_told argument.Workers = Workers
argument_told argument.Partition = Partition
argument_told argument.Steps = Steps

-- the word, with the text that it borrows
abbrev pub word_told : WordKindTold → WordKind
word_told (word.Gives argument value) = Gives (argument_told argument) value.now
word_told (word.Asks argument) = Asks (argument_told argument)
word_told word.Unknown = Unknown
