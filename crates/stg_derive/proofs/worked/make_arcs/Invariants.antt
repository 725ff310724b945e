use Rattle.std.proofs.Common.{◌≡◌, map, take}
use Rattle.stg_contract.specs.inner.Worked.{arc}
use Rattle.stg_derive.proofs.worked.make_arcs.Given as goal

abbrev pub invariant-loop-place : goal.invariant-loop-place
invariant-loop-place l = l.list ≡ map arc (take l.place-index l.table)
