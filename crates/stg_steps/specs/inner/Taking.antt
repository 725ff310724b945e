-- What a call that takes a line returns.
use Rattle.std.specs.Prelude.{◌≡◌, ℕ, Bool, true, false, List, map, Option, Some, None, Result, Err, ⊤}
use Rattle.std.specs.Borrow.{Bor}
use Rattle.stg_steps.specs.declared.log.Log.{Log}
use Rattle.stg_steps.specs.declared.log.StepError.{StepError}
use Rattle.stg_steps.specs.declared.log.StepError.TheVariants as errors
use Rattle.stg_steps.specs.LogText.{LogRow}

-- words, each a slice of the text
abbrev pub lent_words : List (Bor (List ℕ)) → LogRow
lent_words words = map (λ w. w.now) words

-- the line was taken, or it tells nothing
abbrev pub TakesLine : Bool → Option Log → Log → Type 0
TakesLine true told new = told ≡ Some new
TakesLine false told new = told ≡ None

-- the error tells the line, unless memory ran out
abbrev pub IsErrorOf : StepError → Result Log ℕ → Type 0
IsErrorOf errors.NoMemory read = ⊤
IsErrorOf (errors.BadLine line) read = read ≡ Err line
