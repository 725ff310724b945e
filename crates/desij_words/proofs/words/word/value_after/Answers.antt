use Rattle.desij_words.proofs.WordLemmas.{after-stripped}
use Rattle.desij_words.proofs.words.word.value_after.Goals as goal

pub returns : goal.returns
returns c = after-stripped c.args.beginning.now c.args.word.now c.strip_prefix.result c.strip_prefix.ensures.cases
