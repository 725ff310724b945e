use Rattle.std.proofs.Common.{◌≡◌}
use Rattle.stg_conflict.specs.inner.HiddenSearch as search
use Rattle.stg_conflict.specs.inner.Labels.{WalksTrans}
use Rattle.stg_conflict.proofs.hidden.least_at_place.Given as goal

-- what is left has the same least
abbrev pub invariant-loop-u : goal.invariant-loop-u
invariant-loop-u l = record {
  live : WalksTrans l.editor.now l.u-iterator;
  left : search.walked (search.least_with_taker l.editor.now l.t l.p) l.least l.u-iterator ≡ search.least_at_place l.editor.now l.t l.p l.fn.first;
}
