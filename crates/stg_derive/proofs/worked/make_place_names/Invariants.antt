use Rattle.std.proofs.Common.{◌≡◌, map, take}
use Rattle.stg_derive.specs.inner.Derivable.{unnamed}
use Rattle.stg_derive.proofs.worked.make_place_names.Given as goal

abbrev pub invariant-loop-k : goal.invariant-loop-k
invariant-loop-k l = l.list ≡ map unnamed (take l._k-index l.tokens)
