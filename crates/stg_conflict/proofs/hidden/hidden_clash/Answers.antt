use Rattle.stg_conflict.proofs.LeastHidden.{none_hidden, least_hidden}
use Rattle.stg_conflict.proofs.hidden.hidden_clash.Goals as goal

pub returns-clause-none : goal.returns-clause-none
returns-clause-none c = none_hidden c.args.editor.now.signals c.args.signal c.args.editor.now.now c.least_of_signal.result c.least_of_signal.ensures

pub returns-clause-least : goal.returns-clause-least
returns-clause-least c = least_hidden c.args.editor.now.signals c.args.signal c.args.editor.now.now c.least_of_signal.result c.least_of_signal.ensures
