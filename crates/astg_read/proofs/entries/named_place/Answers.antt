use Rattle.std.proofs.Common.{◌∙◌, arith}
use Rattle.astg_read.specs.Markings.{between_both}
use Rattle.astg_read.proofs.EntryLemmas.{named-none, named-one, named-five}
use Rattle.astg_read.proofs.entries.named_place.Goals as goal

pub returns-then-words-eq1 : goal.returns-then-words-eq1
returns-then-words-eq1 c = c.named_by.ensures ∙ named-one c.args.signals.now c.args.words.now _ (omega arith)

pub returns-then-words-eq5 : goal.returns-then-words-eq5
returns-then-words-eq5 c = c.between_both.ensures ∙ (λ j. between_both (c.trans_of_word.ensures j) (c.trans_of_word-then-words-eq5.ensures j)) ∙ named-five c.args.signals.now c.args.words.now _ (omega arith)

pub returns-else-words-eq5 : goal.returns-else-words-eq5
returns-else-words-eq5 c = named-none c.args.signals.now c.args.words.now (omega arith) (omega arith)
