use Rattle.std.proofs.Common.{◌≡◌, map, take}
use Rattle.stg_contract.specs.inner.Worked.{input, lent_texts}
use Rattle.stg_derive.proofs.worked.make_signals.Given as goal

abbrev pub invariant-loop-name : goal.invariant-loop-name
invariant-loop-name l = l.list ≡ map input (lent_texts (take l.name-index l.names))
