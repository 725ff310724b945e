-- Which log a text tells, and which line of it is bad.
use Rattle.std.specs.Prelude.{◌≡◌, ℕ, zero, suc, ◌≤◌, ◌+◌, ◌-◌, ◌==◌, List, [], ◌∷◌, ◌++◌, length, All, Result, Ok, Err, ⊤, if◌then◌else◌}
use Rattle.astg_lex.specs.Lines.{line_ends}
use Rattle.stg_net.specs.Net.{NetLists}
use Rattle.stg_derive.specs.Loggable.{IsLoggableRecord, IsLoggableStep}
use Rattle.stg_steps.specs.declared.log.Log.{Log}
use Rattle.stg_steps.specs.declared.log.StepError.{StepError}
use Rattle.stg_steps.specs.declared.log.StepError.TheVariants.{BadLine, NoMemory}
use Rattle.stg_steps.specs.LogText.{log_text}

-- the records and the steps of the log can be logged, and this is its text
pub record IsLogOf (n : NetLists) (text : List ℕ) (log : Log) : Type 0 where
  pub records : All (IsLoggableRecord n) log.restored
  pub steps : All (IsLoggableStep (length n.trans)) log.steps
  pub written : text ≡ log_text n log.restored log.steps

-- the text of some log begins with these bytes
abbrev pub BeginsLog : NetLists → List ℕ → Type 0
BeginsLog n bytes = (log : Log) × (more : List ℕ) × IsLogOf n (bytes ++ more) log

-- the first k lines of a text, each with its LF (10); all of a text that has fewer
abbrev pub first_lines : ℕ → List ℕ → List ℕ
first_lines k [] = []
first_lines zero (b ∷ bs) = []
first_lines (suc k) (b ∷ bs) = b ∷ first_lines (if b == 10 then k else suc k) bs

-- No log has this text. The lines before this one begin the text of some log, and with this line,
-- where LF ends it, they don't.
pub record IsBadLine (n : NetLists) (text : List ℕ) (line : ℕ) : Type 0 where
  pub no_log : (log : Log) → ¬ IsLogOf n text log
  pub positive : 1 ≤ line
  pub within : line ≤ line_ends text + 1
  pub begins : BeginsLog n (first_lines (line - 1) text)
  pub ends : line ≤ line_ends text → ¬ BeginsLog n (first_lines line text)

-- the error tells the bad line; want of memory tells nothing
abbrev pub IsFaultOf : NetLists → List ℕ → StepError → Type 0
IsFaultOf n text (BadLine line) = IsBadLine n text line
IsFaultOf n text NoMemory = ⊤

-- the log is read, unless memory runs out
abbrev pub IsRead : Log → Result Log StepError → Type 0
IsRead log (Ok found) = found ≡ log
IsRead log (Err (BadLine line)) = ⊥
IsRead log (Err NoMemory) = ⊤

-- the line is told, unless memory runs out
abbrev pub IsLineTold : ℕ → Result Log StepError → Type 0
IsLineTold line (Ok found) = ⊥
IsLineTold line (Err (BadLine told)) = told ≡ line
IsLineTold line (Err NoMemory) = ⊤
