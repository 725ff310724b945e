use Rattle.stg_laws.specs.RedundantDummies.{same_dummy}
use Rattle.stg_redundant.proofs.NearTrans.{turned}
use Rattle.stg_redundant.proofs.dummy_watch.add_redundant.Goals as goal

pub returns-in-None-clause-added : goal.returns-in-None-clause-added
returns-in-None-clause-added c =
    let v = c.args.v in
    let none = c.in-None.ensures in
    (λ r. absurd (none r), λ u p arc s. absurd (none (same_dummy u (turned c.args.editor.now.now u v s))))
