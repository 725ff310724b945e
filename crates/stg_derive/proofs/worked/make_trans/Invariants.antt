use Rattle.std.proofs.Common.{◌≡◌, map, take}
use Rattle.stg_contract.specs.inner.Worked.{named_trans}
use Rattle.stg_derive.proofs.worked.make_trans.Given as goal

abbrev pub invariant-loop-signal : goal.invariant-loop-signal
invariant-loop-signal l = l.list ≡ map named_trans (take l.signal-index l.table)
