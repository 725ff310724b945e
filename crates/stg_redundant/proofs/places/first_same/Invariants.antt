use Rattle.std.proofs.Common.{◌≡◌}
use Rattle.stg_redundant.specs.inner.Tests.{is_same_place, first_in}
use Rattle.stg_redundant.proofs.places.first_same.Given as goal

abbrev pub invariant-loop-q : goal.invariant-loop-q
invariant-loop-q l = first_in (is_same_place l.editor.now l.p) l.q-iterator ≡ first_in (is_same_place l.editor.now l.p) l.fn.places
