use Rattle.std.proofs.Common.{◌≡◌}
use Rattle.stg_conflict.specs.inner.HiddenSearch as search
use Rattle.stg_conflict.proofs.hidden.least_of_signal.Given as goal

-- the least so far
abbrev pub invariant-loop-t : goal.invariant-loop-t
invariant-loop-t l = l.least ≡ search.least_below l.editor.signals l.signal l.editor.now l.t
