use Rattle.std.proofs.Common.{◌≡◌, drop}
use Rattle.stg_conflict.specs.inner.Search.{first_clash}
use Rattle.stg_conflict.proofs.search.find_first.Given as goal

-- what is left has the same first clash
abbrev pub invariant-loop-other : goal.invariant-loop-other
invariant-loop-other l = first_clash l.trans l.arc (drop l.other-index l.later) ≡ first_clash l.trans l.arc l.later
