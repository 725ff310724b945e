use Rattle.std.proofs.Common.{◌+◌}
use Rattle.stg_redundant.proofs.DeadEnds.{AreShut}
use Rattle.stg_redundant.proofs.search.may_leave.Given as goal

abbrev pub invariant-loop-q : goal.invariant-loop-q
invariant-loop-q l = AreShut l.editor.now l.sought.place l.sought.giver l.sought.taker (l.sought.tokens + 1) l.q-iterator
