-- What the worked examples say of a text.
use Rattle.std.specs.Prelude.{◌≡◌, ℕ, ⊤, Result, Ok, Err}
use Rattle.stg_net.specs.declared.limits.Limits.{Limits}
use Rattle.astg_read.specs.declared.rule.Rule.{Rule}
use Rattle.astg_read.specs.Reading.{Fault, Meaning}

-- the limits of a specification
abbrev pub spec : Limits
spec = record { bytes = 1048576; signals = 250; trans = 1000; places = 2000; arcs = 20000; weight = 1000 }

-- this line is the first that breaks a rule, and breaks this one first
abbrev pub is_fault : Rule → ℕ → Result Meaning Fault → Type 0
is_fault rule line r = r ≡ Err (record { rule = rule; line = line })

-- the text stands for something
abbrev pub is_good : Result Meaning Fault → Type 0
is_good (Ok m) = ⊤
is_good (Err f) = ⊥
