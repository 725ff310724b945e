use Rattle.std.proofs.Common.{◌≡◌}
use Rattle.stg_redundant.specs.inner.Tests.{is_same_dummy, first_in}
use Rattle.stg_redundant.proofs.dummies.first_same.Given as goal

abbrev pub invariant-loop-u : goal.invariant-loop-u
invariant-loop-u l = first_in (is_same_dummy l.editor.now l.t) l.u-iterator ≡ first_in (is_same_dummy l.editor.now l.t) l.fn.trans
