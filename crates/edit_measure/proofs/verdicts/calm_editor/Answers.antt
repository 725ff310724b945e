use Rattle.std.proofs.Common.{refl, sym, subst}
use Rattle.stg_contract.specs.Calm.{IsCalm}
use Rattle.stg_contract.proofs.InitialCalm.{calm-initial}
use Rattle.edit_measure.proofs.verdicts.calm_editor.Goals as goal

pub returns : goal.returns
returns c = subst IsCalm (sym c.in_ok-editor.ensures.now) (calm-initial c.args.net.now c.new.result c.in_ok-editor.ensures.net c.requires (c.in-Ok.ensures.none.0 refl))
