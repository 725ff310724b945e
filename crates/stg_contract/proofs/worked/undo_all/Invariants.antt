use Rattle.std.proofs.Common.{◌≤◌, ◌-◌, length}
use Rattle.stg_contract.proofs.worked.undo_all.Given as goal

abbrev pub invariant-loop : goal.invariant-loop
invariant-loop l = l.count - l.counter ≤ length l.editor.past
