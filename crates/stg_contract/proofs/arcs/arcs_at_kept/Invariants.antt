use Rattle.std.proofs.Common.{◌≡◌, ◌-◌, ◌^◌, min}
use Rattle.stg_contract.specs.inner.Counts.{arcs_kept_below}
use Rattle.stg_contract.proofs.arcs.arcs_at_kept.Given as goal

abbrev pub invariant-loop-p : goal.invariant-loop-p
invariant-loop-p l = l.count ≡ min (arcs_kept_below l.editor.now l.t l.p) (2 ^ 64 - 1)
