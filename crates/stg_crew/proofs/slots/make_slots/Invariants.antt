use Rattle.std.proofs.Common.{◌≡◌, None, replicate}
use Rattle.stg_crew.proofs.slots.make_slots.Given as goal

abbrev pub invariant-loop-group : goal.invariant-loop-group
invariant-loop-group l = l.slots.items ≡ replicate l._group None
