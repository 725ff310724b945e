use Rattle.astg_read.proofs.MarkingCheckLemmas.{close-found}
use Rattle.astg_read.proofs.marking.close_length_after.Goals as goal

pub returns-clause-value : goal.returns-clause-value
returns-clause-value c = close-found c.args.first c.args.words.now c.close_length.result c.requires.least c.close_length.ensures.value
