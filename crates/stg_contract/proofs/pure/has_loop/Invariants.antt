use Rattle.std.proofs.Common.{◌≡◌}
use Rattle.std.specs.List.{list_any}
use Rattle.stg_edit.specs.Walks.{taken_places, given_places}
use Rattle.stg_contract.specs.inner.Tests.{is_in}
use Rattle.stg_contract.proofs.pure.has_loop.Given as goal

abbrev pub invariant-loop-p : goal.invariant-loop-p
invariant-loop-p l = list_any (is_in (given_places l.editor.now l.t)) l.p-iterator ≡ list_any (is_in (given_places l.editor.now l.t)) (taken_places l.editor.now l.t)
