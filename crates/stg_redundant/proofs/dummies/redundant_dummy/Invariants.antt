use Rattle.std.proofs.Common.{◌<◌, ℕ}
use Rattle.stg_laws.specs.RedundantDummies.{IsRedundantDummy}
use Rattle.stg_redundant.proofs.dummies.redundant_dummy.Given as goal

abbrev pub invariant-loop-t : goal.invariant-loop-t
invariant-loop-t l = (u : ℕ) → IsRedundantDummy l.editor.now u → u < l.t
