use Rattle.stg_derive.proofs.Choosing.{type2_of}
use Rattle.stg_derive.proofs.choice.secure_of.Goals as goal

pub returns-in_default : goal.returns-in_default
returns-in_default c = type2_of c.args.editor.now.now c.args.t c.test_contractible.result c.test_contractible.ensures c.requires.candidate c.in_default.not-Type1
