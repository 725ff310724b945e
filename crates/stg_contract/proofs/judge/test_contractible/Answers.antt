use Rattle.std.proofs.Common.{sym, ◌∙◌}
use Rattle.stg_contract.proofs.DummyTests.{type1_found, not_type1}
use Rattle.stg_contract.proofs.judge.test_contractible.Goals as goal

pub returns-then-is_type1 : goal.returns-then-is_type1
returns-then-is_type1 c = (c.requires.contractible, type1_found c.args.editor.now.now c.args.t (sym c.is_type1.ensures.value ∙ c.if-is_type1.true))

pub returns-else-is_type1 : goal.returns-else-is_type1
returns-else-is_type1 c =
    (c.requires.contractible, not_type1 c.args.editor.now.now c.args.t c.is_type1.ensures.draft.weightless (sym c.is_type1.ensures.value ∙ c.if-is_type1.false))
