-- The numbers of the reasons why something isn't added to a net.
use Rattle.std.specs.Prelude.{ℕ}
use Rattle.stg_net.specs.declared.builder.BuildError.{BuildError}
use Rattle.stg_net.specs.declared.builder.BuildError.TheVariants.{TooManySignals, TooManyTransitions, TooManyPlaces, TooManyArcs, NoMemory}

-- the number of an error
abbrev pub error_number : BuildError → ℕ
error_number TooManySignals = 1
error_number TooManyTransitions = 2
error_number TooManyPlaces = 3
error_number TooManyArcs = 4
error_number NoMemory = 5
