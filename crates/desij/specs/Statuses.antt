-- The numbers with which the program ends.
use Rattle.std.specs.Prelude.{ℕ}
use Rattle.desij.specs.declared.status.Status.{Status}
use Rattle.desij.specs.declared.status.Status.TheVariants.{Done, BadWords, Refused, ReadFault, WriteFault, PrintFault, NoMemory, ServeFault}

-- the exit status
abbrev pub exit_code : Status → ℕ
exit_code Done = 0
exit_code BadWords = 2
exit_code Refused = 3
exit_code ReadFault = 4
exit_code WriteFault = 5
exit_code PrintFault = 6
exit_code NoMemory = 7
exit_code ServeFault = 8
