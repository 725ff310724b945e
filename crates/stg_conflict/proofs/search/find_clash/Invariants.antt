use Rattle.std.proofs.Common.{◌≡◌, drop}
use Rattle.stg_conflict.specs.inner.Search.{least_clash}
use Rattle.stg_conflict.proofs.search.find_clash.Given as goal

-- the least clash of the arcs from i on
abbrev pub invariant-loop-i : goal.invariant-loop-i
invariant-loop-i l = l.least ≡ least_clash l.trans (drop l.i l.arcs)
