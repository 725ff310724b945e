use Rattle.desij_words.proofs.ServingLemmas.{few_words, many_words}
use Rattle.desij_words.proofs.words.serving.is_of_form.Goals as goal

pub returns-in_default : goal.returns-in_default
returns-in_default c = few_words c.args.words.now c.in_default.len_below

pub returns-in_default-2 : goal.returns-in_default-2
returns-in_default-2 c = many_words c.args.words.now c.in_default.len_at_least
