use Rattle.std.proofs.Common.{◌≡◌}
use Rattle.std.specs.List.{list_any}
use Rattle.stg_contract.specs.inner.Weights.{trans_round}
use Rattle.stg_contract.specs.inner.Sums as sums
use Rattle.stg_contract.proofs.large.is_heavy_at.Given as goal

abbrev pub invariant-loop-u : goal.invariant-loop-u
invariant-loop-u l = list_any (sums.is_heavy l.t (trans_round l.take l.editor.now l.q)) l.u-iterator ≡ sums.is_heavy_at l.take l.editor.now l.t l.p l.q
