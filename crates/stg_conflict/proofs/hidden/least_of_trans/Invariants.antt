use Rattle.std.proofs.Common.{◌≡◌}
use Rattle.stg_conflict.specs.inner.HiddenSearch as search
use Rattle.stg_conflict.specs.inner.Labels.{WalksPlaces}
use Rattle.stg_conflict.proofs.hidden.least_of_trans.Given as goal

-- what is left has the same least
abbrev pub invariant-loop-p : goal.invariant-loop-p
invariant-loop-p l = record {
  live : WalksPlaces l.editor.now l.p-iterator;
  left : search.walked (search.least_at_place l.editor.now l.t) l.least l.p-iterator ≡ search.least_of_trans l.editor.now l.t l.fn.first;
}
