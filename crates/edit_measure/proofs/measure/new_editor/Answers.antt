use Rattle.std.proofs.Common.{sym, subst}
use Rattle.edit_measure.specs.Measuring.{IsLight}
use Rattle.edit_measure.proofs.Light.{initial-light}
use Rattle.edit_measure.proofs.measure.new_editor.Goals as goal

pub returns : goal.returns
returns c = subst IsLight (sym c.in_ok-editor.ensures.now) (initial-light c.args.net.now c.new.result c.in_ok-editor.ensures.net c.requires)
