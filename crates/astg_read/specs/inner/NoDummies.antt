-- What is declared where there are no dummies.
use Rattle.std.specs.Prelude.{List, []}
use Rattle.stg_net.specs.declared.signal.Signal.{Signal}
use Rattle.astg_read.specs.Header.{Declared}

-- what is declared where there are no dummies
abbrev pub without_dummies : List Signal → Declared
without_dummies signals = record { signals = signals; dummies = [] }
