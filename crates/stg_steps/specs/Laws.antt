-- The laws of logs: each text tells one log or has one bad line, and not both.
use Rattle.std.specs.Prelude.{◌≡◌, ℕ, List, ◌⊎◌}
use Rattle.stg_net.specs.Net.{NetLists, IsNet}
use Rattle.stg_net.specs.Names.{IsWellNamed}
use Rattle.stg_steps.specs.declared.log.Log.{Log}
use Rattle.stg_steps.specs.Logs.{IsLogOf, IsBadLine}

-- a text is that of at most one log
abbrev pub LogIsOne : Type 0
LogIsOne = (n : NetLists) (text : List ℕ) (log other : Log) → IsNet n → IsWellNamed n
    → IsLogOf n text log → IsLogOf n text other → log ≡ other

-- a text with a bad line is that of no log
abbrev pub BadLineHasNoLog : Type 0
BadLineHasNoLog = (n : NetLists) (text : List ℕ) (line : ℕ) (log : Log)
    → IsBadLine n text line → ¬ IsLogOf n text log

-- a text has at most one bad line
abbrev pub BadLineIsOne : Type 0
BadLineIsOne = (n : NetLists) (text : List ℕ) (line other : ℕ)
    → IsBadLine n text line → IsBadLine n text other → line ≡ other

-- a text is that of a log, or has a bad line
abbrev pub TextIsTold : Type 0
TextIsTold = (n : NetLists) (text : List ℕ) → IsNet n → IsWellNamed n
    → ((log : Log) × IsLogOf n text log) ⊎ ((line : ℕ) × IsBadLine n text line)
