use Rattle.std.proofs.Common.{◌≡◌, ◌+◌, length}
use Rattle.stg_redundant.proofs.worked.contract_each.Given as goal

abbrev pub invariant-loop-t : goal.invariant-loop-t
invariant-loop-t l = length l.editor.past ≡ length l.fn.editor.past + l.t-index
